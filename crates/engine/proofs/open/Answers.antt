-- Each return is one law of proofs/Calls. What the connection is, and the words after it is opened, come from memory.
use mathlib.Core.Path.{◌≡◌, sym, ◌∙◌}
use mathlib.Core.Bool.{true, false}
use native.Mathlib.Omega.{arith}
use Rattle.rules.specs.State.{is_open}
use Rattle.engine.proofs.Calls.{open-is, open-bad, open_twice, open_done}
use Rattle.engine.proofs.open.Goals as goal

pub returns-then-conn-gt3 : goal.returns-then-conn-gt3
returns-then-conn-gt3 c =
    open-bad c.args.conn c.requires (omega arith)

pub returns-then-ne : goal.returns-then-ne
returns-then-ne c =
    let o : is_open c.link.result ≡ true = open-is c.link.result ∙ sym c.ne.ensures ∙ c.if-ne.true in
    open_twice c.args.conn c.requires c.link.result (omega arith) c.link.ensures o

pub returns : goal.returns
returns c =
    let o : is_open c.link.result ≡ false = open-is c.link.result ∙ sym c.ne.ensures ∙ c.if-ne.false in
    rw c.unmoved.ensures (open_done c.args.conn c.requires c.link.result (omega arith) c.link.ensures o c.set_link.ensures)
