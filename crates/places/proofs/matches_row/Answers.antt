-- Each arm is its key's test, of the fields that the words of the place are (`load_is`).
use mathlib.Core.Path.{◌≡◌, refl, sym, ap, ◌∙◌}
use mathlib.Core.Bool.{Bool, true, false, ◌&&◌}
use Prim.Native.Nat.{◌+◌}
use lib.Dec.{eqb}
use lib.ListN.{get_or}
use borrow.Author.Tests.{eq-eqb, ne_eqb}
use Rattle.rules.specs.State.{empty, is, follows}
use Rattle.places.proofs.Words.{load_is}
use Rattle.places.proofs.matches_row.Goals as goal

-- the second test is made first
last-holds : (a b : Bool) → b ≡ true → a ≡ a && b
last-holds true b e = sym e
last-holds false b e = refl

last-fails : (a b : Bool) → b ≡ false → b ≡ a && b
last-fails true b e = refl
last-fails false b e = e

pub returns-then-id-q : goal.returns-then-id-q
returns-then-id-q c =
    rw c.in-Held.is (last-holds _ _ (eq-eqb _ _ c.if-id-q.true)
    ∙ ap (is _ _) (load_is c.args.q.now c.args.b empty c.requires))

pub returns-else-id-q : goal.returns-else-id-q
returns-else-id-q c =
    rw c.in-Held.is (last-fails (eqb c.in-Held.conn (get_or c.args.q.now (c.args.b + 0) 0)) _ (ne_eqb _ _ c.if-id-q.false)
    ∙ ap (is _ _) (load_is c.args.q.now c.args.b empty c.requires))

pub returns-then-id-q-2 : goal.returns-then-id-q-2
returns-then-id-q-2 c =
    rw c.in-Follows.is (last-holds _ _ (eq-eqb _ _ c.if-id-q-2.true)
    ∙ ap (follows _ _) (load_is c.args.q.now c.args.b empty c.requires))

pub returns-else-id-q-2 : goal.returns-else-id-q-2
returns-else-id-q-2 c =
    rw c.in-Follows.is (last-fails (eqb c.in-Follows.conn (get_or c.args.q.now (c.args.b + 0) 0)) _ (ne_eqb _ _ c.if-id-q-2.false)
    ∙ ap (follows _ _) (load_is c.args.q.now c.args.b empty c.requires))
