-- 02, CR 8: the driver's page of a lent splicer: its rows are what ended lately, newest first. Rests on rows' laws of the promise, on
-- memory's of the words of what ended, and on rules' sizes of what is kept.
use mathlib.Core.Path.{◌≡◌, ap, ◌∙◌}
use mathlib.Core.List.{List}
use Prim.Native.Nat.{ℕ, ◌<◌}
use lib.ListN.{length}
use Rattle.rules.specs.Recent.{recent_at}
use Rattle.rules.specs.Follows.Sound.{Recalled}
use Rattle.rules.proofs.Recall.{noted-at}
use Rattle.memory.specs.Memory.{late_of, see, Form}
use Rattle.memory.proofs.Laws.{ended-recent}
use Rattle.rows.specs.declared.Row.{Row}
use Rattle.rows.specs.Rows.{rows, row_in, row_at, Pages, row_of, rows_of}
use Rattle.rows.proofs.Laws.{page-rows, narrow-row}

module _ (m : List ℕ) (f : Form m) (r : Recalled (see m).queue.lately) where
  abbrev e : List ℕ
  e = late_of m

  -- the row i is that of the one that ended i ends before the newest
  row-shown : (i : ℕ) → i < rows → row_at e i ≡ row_of (recent_at i (see m).queue.lately)
  row-shown i h =
      ap row_in (ended-recent m f i h) ∙ narrow-row (recent_at i (see m).queue.lately) (noted-at (see m).queue.lately r i)

  pub page-shown : (lent : List Row) {n : ℕ} {a : List Row} → length lent ≡ rows → Pages e lent n a → a ≡ rows_of (see m).queue.lately
  page-shown lent h p = page-rows e (see m).queue.lately lent row-shown h p
