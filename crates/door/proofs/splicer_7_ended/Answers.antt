-- A row more is one `set` more (`one-filled`). Rests on what rows promises.
use Rattle.std.proofs.Common.{◌≡◌, ℕ, ◌+◌, List, set, refl, add-one}
use Rattle.rows.specs.declared.Row.{Row}
use Rattle.rows.specs.Rows.{row_at, filled}
use Rattle.door.proofs.splicer_7_ended.Goals as goal

none-filled : (f : ℕ → Row) (l : List Row) → l ≡ filled 0 f l
unfolding filled
none-filled f l = refl

one-filled : (i : ℕ) (f : ℕ → Row) (l : List Row) → set (filled i f l) i (f i) ≡ filled (i + 1) f l
unfolding filled
one-filled i f l = rw add-one refl

pub loop-i-init : goal.loop-i-init
loop-i-init c = none-filled (row_at c.args.ended.now) c.args.page.now

pub loop-i-preserved : goal.loop-i-preserved
loop-i-preserved c =
    rw (c.loop-i.invariant, c.row_at.ensures) (one-filled c.loop-i.i (row_at c.args.ended.now) c.args.page.now)
