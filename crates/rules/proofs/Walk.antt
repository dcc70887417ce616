-- Followers: what a walk takes out and what it leaves, and the walk link by link as code makes it. Assumes nothing.
use mathlib.Core.Path.{◌≡◌, refl}
use mathlib.Core.Bool.{Bool, true}
use mathlib.Core.List.{List, [], ◌∷◌}
use Prim.Native.Nat.{ℕ, zero, suc, ◌+◌, ◌≤◌, ◌<◌}
use native.Mathlib.Omega.{arith}
use lib.Dec.{eqb, ltb}
use lib.ListN.{length, get_or}
use borrow.Author.Tests.{ltb-true, lt-ltb, le-ltb}
use Rattle.rules.specs.declared.Session.{Session}
use Rattle.rules.specs.Lists.{count, place, remove_at}
use Rattle.rules.specs.State.{empty, of, follows}
use Rattle.rules.specs.Ends.{Walk, walk, followers}
use Rattle.rules.proofs.All.{All}
use Rattle.rules.proofs.Tests.{by, and_both}
use Rattle.rules.proofs.Count.{count-remove_at, length-remove_at, place-holds}
use Rattle.rules.proofs.Every.{all_get_d, Fewer, fewer-same, fewer-then, fewer-remove_at, fewer-all}

-- the first of l was requested behind connection c's number x, and each other one behind the one before it
abbrev pub Linked : ℕ → ℕ → List Session → Type 0
Linked c x [] = Unit {0}
Linked c x (s ∷ l) = (follows c x s ≡ true) × Linked c s.id l

-- what a walk from connection c's number x makes of w
pub record Walked (c x : ℕ) (w : List Session) (r : Walk) : Type 0 where
  pub counts : (p : Session → Bool) → count p w ≡ count p r.gone + count p r.left
  pub lengths : length w ≡ length r.gone + length r.left
  pub fewer : Fewer w r.left
  pub linked : Linked c x r.gone
  pub own : All (λ s. of c s ≡ true) r.gone

nobody-goes : (c x : ℕ) (w : List Session) → Walked c x w (record { gone = []; left = w })
nobody-goes c x w = record { counts = λ p. omega arith; lengths = omega arith; fewer = fewer-same w; linked = tt; own = tt }

pub walked : (n c x : ℕ) (w : List Session) → Walked c x w (walk n c x w)
unfolding walk
walked zero c x w = nobody-goes c x w
walked (suc n) c x w = by (Walked c x w) (ltb i (length w)) _ _ (λ e. more (ltb-true i (length w) e) (walked n c s.id (remove_at i w)))
    (λ e. nobody-goes c x w)
  where
    i : ℕ
    i = place (follows c x) w

    s : Session
    s = get_or w i empty

    more : i < length w → Walked c s.id (remove_at i w) (walk n c s.id (remove_at i w))
        → Walked c x w (record { gone = s ∷ (walk n c s.id (remove_at i w)).gone; left = (walk n c s.id (remove_at i w)).left })
    more h ih =
        let f = place-holds (follows c x) w empty h in
        record {
          counts = λ p. omega (arith, ih.counts p, count-remove_at p i w empty h);
          lengths = omega (arith, ih.lengths, length-remove_at i w h);
          fewer = fewer-then (fewer-remove_at i w) ih.fewer;
          linked = (f, ih.linked);
          own = ((and_both (eqb c s.conn) (eqb x s.prior) f).0, ih.own);
        }

-- a fact of each of w is one of each that goes
pub walk-gone : (P : Session → Type 0) (n c x : ℕ) (w : List Session) → All P w → All P (walk n c x w).gone
unfolding walk
walk-gone P zero c x w a = tt
walk-gone P (suc n) c x w a =
    let i = place (follows c x) w in
    let s = get_or w i empty in
    by (λ (r : Walk). All P r.gone) (ltb i (length w)) _ _
    (λ e. (all_get_d P w i empty (ltb-true i (length w) e) a, walk-gone P n c s.id (remove_at i w) (fewer-all P (fewer-remove_at i w) a)))
    (λ e. tt)

module _ (c x : ℕ) (w : List Session) where
  pub followed : Walked c x w (followers c x w)
  unfolding followers
  followed = walked (length w) c x w

  pub followers-gone : (P : Session → Type 0) → All P w → All P (followers c x w).gone
  unfolding followers
  followers-gone P a = walk-gone P (length w) c x w a

  -- ## Link by link

  pub walk_none : (i : ℕ) → i ≡ place (follows c x) w → length w ≤ i → followers c x w ≡ record { gone = []; left = w }
  unfolding followers walk
  walk_none i e h = at-end (length w)
    where
      at-end : (n : ℕ) → walk n c x w ≡ record { gone = []; left = w }
      at-end zero = refl
      at-end (suc n) = rw (le-ltb (place (follows c x) w) (length w) (omega arith))

  pub walk_more : (i : ℕ) → i ≡ place (follows c x) w → i < length w
      → followers c x w
      ≡ record {
        gone = get_or w i empty ∷ (followers c (get_or w i empty).id (remove_at i w)).gone;
        left = (followers c (get_or w i empty).id (remove_at i w)).left;
      }
  unfolding followers walk
  walk_more i e h = rw (e, ← (length-remove_at (place (follows c x) w) w (omega arith)))
      (rw (lt-ltb (place (follows c x) w) (length w) (omega arith)))
