-- 02, CR 11: what an acceptance shifts. Rests on the counts of an accepted session (Sessions) and of a list with one more (Count).
use mathlib.Core.Path.{◌≡◌, refl, sym, ap, ◌∙◌}
use mathlib.Core.Bool.{Bool, true, false, cond}
use mathlib.Core.List.{List, [], ◌∷◌}
use Prim.Native.Nat.{ℕ, suc, ◌+◌, ◌-◌, ◌≤◌, ◌<◌}
use native.Mathlib.Omega.{arith}
use lib.Dec.{ltb}
use lib.ListN.{length}
use borrow.Author.Tests.{lt-ltb, le-ltb, ltb-true}
use Rattle.rules.specs.declared.Session.{Session}
use Rattle.rules.specs.Lists.{All, bit, some, count, place}
use Rattle.rules.specs.State.{Queue, starts_at, starts_after}
use Rattle.rules.specs.Follows.Wires.{Sorted}
use Rattle.rules.specs.Ends.{quiet, and_then, evicted}
use Rattle.rules.specs.Splicing.{inserted, accepted, later}
use Rattle.rules.proofs.Count.{some-place, length-insert_at}
use Rattle.rules.proofs.Sessions.{count-accepted}

-- nobody is evicted where none that waits has the start
pub evicted-none : (t : ℕ) (q : Queue) → some (starts_at t) q.waiting ≡ false → quiet q ≡ evicted t q
unfolding evicted
evicted-none t q h = rw (sym (some-place (starts_at t) q.waiting) ∙ h)

-- the new one is not later than itself: those that wait after the acceptance count alike
pub later-after : (s : Session) (q : Queue) → later s q ≡ count (starts_after s.start.0) (accepted s q).queue.waiting
unfolding later
later-after s q =
    let t = s.start.0 in
    omega (arith, count-accepted (starts_after t) s q, ap bit (le-ltb t t (omega arith)))

count-all : (p : Session → Bool) (l : List Session) → count p l ≤ length l
count-all p [] = omega arith
count-all p (x ∷ l) = omega (arith, count-all p l, bit-one (p x))
  where
    bit-one : (b : Bool) → bit b ≤ 1
    bit-one true = omega arith
    bit-one false = omega arith

-- "and is at most 63": one fewer than wait after it
pub later-fewer : (s : Session) (q : Queue) → suc (later s q) ≤ length (accepted s q).queue.waiting
unfolding later accepted and_then inserted
later-fewer s q =
    let t = s.start.0 in
    let w = (evicted t q).queue.waiting in
    omega (arith, count-all (starts_after t) w, length-insert_at (place (starts_after t) w) s w)

-- ## Those that stand from the place of the new one on

-- all of u start later than a, and a not before t
all-later : (t a : ℕ) (u : List Session) → t ≤ a → All (λ s. a < s.start.0) u → count (starts_after t) u ≡ length u
all-later t a [] h g = refl
all-later t a (x ∷ u) h g = rw (lt-ltb t x.start.0 (omega (arith, g.0))) (omega (arith, all-later t a u h g.1))

-- of sessions in order of start those behind the place for the start t are the later ones
pub later-behind : (t : ℕ) (u : List Session) → Sorted u → length u - place (starts_after t) u ≡ count (starts_after t) u
unfolding place
later-behind t [] o = refl
later-behind t (x ∷ u) o = go (ltb t x.start.0) refl (later-behind t u o.1)
  where
    go : (b : Bool) → ltb t x.start.0 ≡ b → length u - place (starts_after t) u ≡ count (starts_after t) u
        → suc (length u) - cond b 0 (suc (place (starts_after t) u)) ≡ bit b + count (starts_after t) u
    go true e h = omega (arith, all-later t x.start.0 u (omega (arith, ltb-true t x.start.0 e)) o.0)
    go false e h = omega (arith, h)
