-- The words from the first of row i on are that row (`load_is`). Rests on what `phase_at` promises.
use mathlib.Core.Path.{sym, ap, ◌∙◌}
use Prim.Native.Nat.{◌/◌}
use lib.ListN.{length}
use Rattle.recall_rules.specs.declared.Verdict.{Verdict}
use Rattle.recall_rules.specs.Verdicts.{none}
use Rattle.recall_rows.specs.Rows.{width}
use Rattle.recall_rows.proofs.Rows.{load_is}
use Rattle.recall_rows.proofs.load.Goals as goal

pub returns : goal.returns
returns c =
    let e = load_is (length c.args.m.now / width) c.args.i c.args.m.now none c.requires in
    rw (c.phase_at-phase.ensures ∙ sym (ap (λ (v : Verdict). v.phase) e)) e
