-- 02, CR 11: but for the places that an acceptance shifts, and its own, the lent places hold what they held.
-- Rests on places' `stays` and on Laws (how many are used).
use mathlib.Core.Path.{◌≡◌, sym, ap, subst, ◌∙◌}
use mathlib.Core.List.{List}
use Prim.Native.Nat.{ℕ, ◌+◌, ◌-◌, ◌*◌, ◌≤◌}
use native.Mathlib.Omega.{arith}
use lib.ListN.{length, take, get_or}
use borrow.Rule.Slice.PartMut.{mid_len}
use Rattle.rules.specs.declared.Session.{Session}
use Rattle.rules.specs.Lists.{insert_at}
use Rattle.rules.specs.Bytes.{part}
use Rattle.rules.proofs.Count.{length-insert_at}
use Rattle.places.specs.Places.{width, round, next, lot, used, Good, Made}
use Rattle.places.proofs.Words.{spare-none}
use Rattle.places.proofs.Counts.{stays}
use Rattle.memory.specs.declared.Which.TheVariants.{Waiting}
use Rattle.memory.specs.Memory.{slot_of, from_of, to_of, span_of, places_from, sessions, see, Form}
use Rattle.memory.proofs.Laws.{counted}

-- of the words m, and of the words o that an acceptance made of them
module _ (m o : List ℕ) (at k : ℕ) (x : Session) (f : Form m) (g : Form o) (ring : (see o).ring_end ≡ next (see m).ring_end)
    (list : sessions Waiting o ≡ insert_at at x (sessions Waiting m)) (low : at ≤ length (sessions Waiting m))
    (few : length (sessions Waiting o) ≤ round) (shifts : k ≡ length (sessions Waiting m) - at) where
  abbrev e : ℕ
  e = (see m).ring_end

  abbrev n : ℕ
  n = get_or m (slot_of Waiting) 0

  abbrev here : List ℕ → List ℕ
  here z = part (from_of Waiting) (span_of Waiting) z

  long : (z : List ℕ) → Form z → length (here z) ≡ round * width
  long z h = mid_len (from_of Waiting) (to_of Waiting) z (omega (arith, h.whole))

  wait : n ≡ length (sessions Waiting m)
  wait = counted Waiting m f

  more : get_or o (slot_of Waiting) 0 ≡ n + 1
  more = omega (arith, counted Waiting o g, ap length list, length-insert_at at x (sessions Waiting m), wait)

  made : Made (here m) (here o) (next e) (n + 1) (insert_at at x (used (lot (here m) e n)))
  made =
      record {
        good = subst (λ (z : ℕ). Good (lot (here o) z (n + 1))) ring
            (subst (λ (z : ℕ). Good (lot (here o) (see o).ring_end z)) more g.waiting);
        list = (λ i. used (lot (here o) (sym ring i) (sym more i))) ∙ list;
        rest = spare-none round (here o) (long o g) ∙ sym (spare-none round (here m) (long m f));
      }

  pub places-stay : take (round - (k + 1)) (places_from (next e) o) ≡ take (round - (k + 1)) (places_from (next e) m)
  places-stay =
      stays (here m) (here o) e n at k x (omega (arith, long m f)) (omega (arith, long o g)) f.ring
      (omega (arith, more, few, counted Waiting o g)) (omega (arith, low, wait)) (omega (arith, shifts, wait)) f.waiting made
