-- Places: no connection has more than 20 waiting, the four counts, each raised to 10, are never above 64, so at most 64 wait.
-- Assumes nothing.
use mathlib.Core.Path.{◌≡◌, refl, ap}
use mathlib.Core.Bool.{Bool, true, false, ◌&&◌, ◌||◌}
use mathlib.Core.List.{List, [], ◌∷◌}
use Prim.Native.Nat.{ℕ, zero, suc, ◌+◌, ◌≤◌, ◌<◌}
use native.Mathlib.Omega.{arith}
use native.Mathlib.Nat.{zero-add}
use native.Mathlib.Numerals.{one-add}
use lib.Dec.{eqb, leb}
use lib.ListN.{length}
use borrow.Author.Tests.{eqb-true, eqb-false, leb-false}
use Rattle.rules.specs.declared.Session.{Session}
use Rattle.rules.specs.declared.Request.{Request}
use Rattle.rules.specs.Lists.{bit}
use Rattle.rules.specs.State.{Splicer, of}
use Rattle.rules.specs.Splicing.{session_at, requested, waits, raised, sum_of, full, accepted}
use Rattle.rules.specs.Follows.Sound.{raised_sum}
use Rattle.rules.specs.Calls.{Call, fresh, after}
use Rattle.rules.proofs.Tests.{or-none}
use Rattle.rules.proofs.All.{All}
use Rattle.rules.proofs.Every.{Fewer, fewer-count}
use Rattle.rules.proofs.Leaving.{evicted-fewer, aborted-fewer, closed_by-fewer}
use Rattle.rules.proofs.Always.{Admitted, KeptHeld, held-always}
use Rattle.rules.proofs.Sessions.{count-accepted, waiting-tick}
pub use Rattle.rules.specs.Follows.Sound.{Room}

raised-up : (x y : ℕ) → x ≤ y → raised x ≤ raised y
raised-up x y h = omega arith

four-up : (a b c d a' b' c' d' : ℕ) → a ≤ a' → b ≤ b' → c ≤ c' → d ≤ d' → a + (b + (c + d)) ≤ a' + (b' + (c' + d'))
four-up a b c d a' b' c' d' h i j k = omega arith

sum-up : (n n' : ℕ → ℕ) → ((c : ℕ) → n c ≤ n' c) → sum_of n ≤ sum_of n'
sum-up n n' h = four-up _ _ _ _ _ _ _ _ (raised-up _ _ (h 0)) (raised-up _ _ (h 1)) (raised-up _ _ (h 2)) (raised-up _ _ (h 3))

-- one more for d
abbrev pub plus : ℕ → (ℕ → ℕ) → ℕ → ℕ
plus d n c = bit (eqb c d) + n c

sum-plus : (n : ℕ → ℕ) (d : ℕ) → d ≤ 3 → sum_of (plus d n) + raised (n d) ≤ sum_of n + raised (suc (n d))
sum-plus n zero h = simp (zero-add, one-add) (omega arith)
sum-plus n (suc zero) h = simp (zero-add, one-add) (omega arith)
sum-plus n (suc (suc zero)) h = simp (zero-add, one-add) (omega arith)
sum-plus n (suc (suc (suc zero))) h = simp (zero-add, one-add) (omega arith)
sum-plus n (suc (suc (suc (suc d)))) h = absurd (omega arith)

not_full : (n s : ℕ) → (eqb n 20 || (leb 10 n && eqb s 64)) ≡ false → s ≤ 64 → n ≤ 20 → (n < 20) × (s + raised (suc n) ≤ 64 + raised n)
not_full n s e h k = go (leb 10 n) refl (or-none (eqb n 20) (leb 10 n && eqb s 64) e)
  where
    go : (b : Bool) → leb 10 n ≡ b → (eqb n 20 ≡ false) × ((leb 10 n && eqb s 64) ≡ false) → (n < 20) × (s + raised (suc n) ≤ 64 + raised n)
    go true f o =
        let z = eqb-false n 20 o.0 in
        let y = eqb-false s 64 (rw f at o.1) in
        (omega arith, omega arith)
    go false f o = let z = leb-false 10 n f in (omega arith, omega arith)

-- ## Every call

room-less : (w v : List Session) → ((c : ℕ) → waits c v ≤ waits c w) → Room w → Room v
room-less w v h r = record {
  each = λ c. omega (arith, h c, r.each c);
  sum =
      omega (arith, sum-up (λ c. waits c v) (λ c. waits c w) h, r.sum);
}

pub room-fewer : (w v : List Session) → Fewer w v → Room w → Room v
room-fewer w v f r = room-less w v (λ c. fewer-count (of c) f) r

pub room-more : (w v : List Session) (d : ℕ) → d ≤ 3 → full d w ≡ false → ((c : ℕ) → waits c v ≤ plus d (λ e. waits e w) c) → Room w
    → Room v
unfolding full
room-more w v d low f h r =
    let n : ℕ → ℕ = λ c. waits c w in
    let k = not_full (waits d w) (raised_sum w) f r.sum (r.each d) in
    record {
      each = λ c. one k.0 c (eqb c d) refl;
      sum = trans _ _ _ _ _ (sum-up (λ c. waits c v) (plus d n) h) (sum-plus n d low) k.1;
    }
  where
    one : waits d w < 20 → (c : ℕ) (b : Bool) → eqb c d ≡ b → waits c v ≤ 20
    one k c true e = omega (arith, h c, ap bit e, ap (λ (x : ℕ). waits x w) (eqb-true c d e))
    one k c false e = omega (arith, h c, ap bit e, r.each c)

    trans : (a b c d e : ℕ) → a ≤ b → b + c ≤ d + e → d + e ≤ 64 + c → a ≤ 64
    trans a b c d e h i j = omega arith

room-accepted : {F : Call → Type 0} (s : Splicer) (c : ℕ) (r : Request) → Admitted F s c r → Room s.queue.waiting
    → Room (accepted (requested c r s.queue) s.queue).queue.waiting
unfolding requested session_at
room-accepted s c r a h =
    let q = s.queue in
    let new = requested c r q in
    room-more q.waiting (accepted new q).queue.waiting c a.low a.passed.room
    (λ d. omega (arith, count-accepted (of d) new q, fewer-count (of d) (evicted-fewer new.start.0 q).waiting)) h

pub room-kept : {F : Call → Type 0} → KeptHeld F (λ now q. Room q.waiting)
room-kept =
    record {
      closing = λ now q c h. room-fewer q.waiting _ (closed_by-fewer c q).waiting h;
      aborting = λ now q c x e h. room-fewer q.waiting _ (aborted-fewer c x q).waiting h;
      accepting = room-accepted;
      ticking = λ now until q le h. room-fewer q.waiting _ (waiting-tick now until q) h;
    }

pub room-none : Room []
room-none = record { each = λ c. omega arith; sum = omega arith }

pub room-always : (ks : List Call) (name : List ℕ) → Room (after ks (fresh name).splicer).queue.waiting
room-always = held-always (λ now q. Room q.waiting) room-kept room-none

-- ## At most 64 wait

four-sum : (w : List Session) → All (λ s. s.conn ≤ 3) w → length w ≡ waits 0 w + (waits 1 w + (waits 2 w + waits 3 w))
four-sum [] a = refl
four-sum (s ∷ w) a = omega (arith, four-sum w a.1, one s.conn a.0)
  where
    one : (c : ℕ) → c ≤ 3 → bit (eqb 0 c) + (bit (eqb 1 c) + (bit (eqb 2 c) + bit (eqb 3 c))) ≡ 1
    one zero h = refl
    one (suc zero) h = refl
    one (suc (suc zero)) h = refl
    one (suc (suc (suc zero))) h = refl
    one (suc (suc (suc (suc c)))) h = absurd (omega arith)

high : (a b c d : ℕ) → a + (b + (c + d)) ≤ raised a + (raised b + (raised c + raised d))
high a b c d = omega arith

pub sixty-four : (w : List Session) → All (λ s. s.conn ≤ 3) w → Room w → length w ≤ 64
sixty-four w a r = omega (arith, four-sum w a, high (waits 0 w) (waits 1 w) (waits 2 w) (waits 3 w), r.sum)
