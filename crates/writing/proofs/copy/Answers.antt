use mathlib.Core.Path.{refl, sym, ap, ◌∙◌}
use native.Mathlib.Omega.{arith}
use lib.Seq.{take_all}
use Rattle.rules.specs.Bytes.{written}
use Rattle.rules.proofs.Written.{written_none}
use Rattle.writing.proofs.Parts.{copied}
use borrow.Author.Rules.{rules}
use Rattle.writing.proofs.copy.Goals as goal

pub loop-i-init : goal.loop-i-init
loop-i-init c = (refl, sym (written_none c.args.out.now 0))

pub loop-i-preserved : goal.loop-i-preserved
loop-i-preserved c = (
  search rules,
  copied c.args.out.now c.args.name.now _ c.loop-i.i (omega arith) c.requires
      c.loop-i.invariant.1,
)

pub returns : goal.returns
returns c =
    c.loop-i.invariant.1 ∙ ap (written c.args.out.now 0) (take_all c.loop-i.i c.args.name.now (omega arith))
