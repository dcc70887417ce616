-- The invariant: the first i of the list stand as rows (`Lists`).
use mathlib.Core.Path.{◌≡◌}
use lib.ListN.{length}
use Rattle.engine.specs.Lent.{Lists}
use Rattle.engine.proofs.list_sessions.Given as goal

abbrev pub invariant-loop-i : goal.invariant-loop-i
invariant-loop-i l = record {
  long : length l.rows ≡ length l.initial.rows;
  listed : Lists l.which l.i l.m l.initial.rows l.rows;
}
