-- Only the first of the started is on air (`elapsed-some`), and it has room for more (`first-lasting`); with none it is the primary channel
-- (`elapsed-none`).
use mathlib.Core.Path.{sym}
use Prim.Native.Nat.{◌<◌}
use lib.ListN.{length}
use Rattle.memory.specs.Memory.{see}
use Rattle.instants.proofs.Starts.{elapsed-none, elapsed-some, first-lasting}
use Rattle.memory.proofs.Laws.{quiet_none, quiet-some}
use Rattle.instants.proofs.elapse.Goals as goal

pub returns-then-is_quiet : goal.returns-then-is_quiet
returns-then-is_quiet c =
    let a = c.args in
    elapsed-none a.d (see a.m.now) (sym (quiet_none c.is_quiet.ensures c.if-is_quiet.true)) c.silence.ensures

pub play-requires : goal.play-requires
play-requires c =
    let l = (see c.args.m.now).queue.started in
    let h : 0 < length l = quiet-some c.is_quiet.ensures c.if-is_quiet.false in
    record { form = c.requires.form; nonzero = h; d_bound = first-lasting c.args.d l h c.requires.lasting }

pub returns : goal.returns
returns c =
    let a = c.args in
    let h : 0 < length (see a.m.now).queue.started = quiet-some c.is_quiet.ensures c.if-is_quiet.false in
    elapsed-some a.d (see a.m.now) h c.play.ensures
