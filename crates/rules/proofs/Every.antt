-- Facts of each of a list, order of start, and lists that have lost some of their members. Assumes nothing.
use mathlib.Core.Path.{◌≡◌, refl, ap}
use mathlib.Core.Bool.{Bool, true, false, cond}
use mathlib.Core.List.{List, [], ◌∷◌, ◌++◌}
use Prim.Native.Nat.{ℕ, zero, suc, ◌+◌, ◌≤◌, ◌<◌}
use native.Mathlib.Omega.{arith}
use lib.ListN.{length, get_or}
use borrow.Author.Tests.{ltb-true, ltb-false}
use Rattle.rules.specs.declared.Session.{Session}
use Rattle.rules.specs.Lists.{bit, put, keep, some, count, place, insert_at, remove_at}
use Rattle.rules.specs.State.{Queue, held, starts_after}
pub use Rattle.rules.specs.Follows.Wires.{Sorted}
use Rattle.rules.specs.Splicing.{inserted}
use Rattle.rules.proofs.All.{All, all_append, all-into}
use Rattle.rules.proofs.Tests.{or-none}
pub use Rattle.rules.specs.Follows.Sound.{Each}

-- ## All of a list

module _ {A : Type 0} where
  pub all-put : (P : A → Type 0) (b : Bool) (x : A) (l : List A) → (b ≡ true → P x) → All P l → All P (put b x l)
  all-put P true x l h a = (h refl, a)
  all-put P false x l h a = a

  -- what is kept passes the test
  pub all-kept : (P Q : A → Type 0) (p : A → Bool) → ((x : A) → P x → p x ≡ true → Q x) → (l : List A) → All P l → All Q (keep p l)
  all-kept P Q p f [] a = tt
  all-kept P Q p f (x ∷ l) a = all-put Q (p x) x (keep p l) (f x a.0) (all-kept P Q p f l a.1)

  pub all_keep : (P : A → Type 0) (p : A → Bool) (l : List A) → All P l → All P (keep p l)
  all_keep P p l a = all-kept P P p (λ x h e. h) l a

  pub all_both : (P Q : A → Type 0) (l : List A) → All P l → All Q l → All (λ x. P x × Q x) l
  all_both P Q [] a b = tt
  all_both P Q (x ∷ l) a b = ((a.0, b.0), all_both P Q l a.1 b.1)

  pub all_any : (P : A → Type 0) → ((x : A) → P x) → (l : List A) → All P l
  all_any P f [] = tt
  all_any P f (x ∷ l) = (f x, all_any P f l)

  pub all-parts : (P : A → Type 0) (a b : List A) → All P (a ++ b) → All P a × All P b
  all-parts P [] b h = (tt, h)
  all-parts P (x ∷ a) b h = let k = all-parts P a b h.1 in ((h.0, k.0), k.1)

  pub all_get_d : (P : A → Type 0) (l : List A) (i : ℕ) (d : A) → i < length l → All P l → P (get_or l i d)
  all_get_d P [] i d h a = absurd (omega arith)
  all_get_d P (x ∷ l) zero d h a = a.0
  all_get_d P (x ∷ l) (suc i) d h a = all_get_d P l i d (omega arith) a.1

  -- from each place
  pub each_at : (P : A → Type 0) (d : A) (l : List A) → ((i : ℕ) → i < length l → P (get_or l i d)) → All P l
  each_at P d [] f = tt
  each_at P d (x ∷ l) f = (f 0 (omega arith), each_at P d l (λ i h. f (suc i) (omega arith)))

  pub all-insert_at : (P : A → Type 0) (i : ℕ) (x : A) (l : List A) → P x → All P l → All P (insert_at i x l)
  unfolding insert_at
  all-insert_at P zero x l h a = (h, a)
  all-insert_at P (suc i) x [] h a = (h, tt)
  all-insert_at P (suc i) x (y ∷ l) h a = (a.0, all-insert_at P i x l h a.1)

  -- by counts
  pub all_none : (p : A → Bool) (l : List A) → count p l ≡ 0 → All (λ x. p x ≡ false) l
  all_none p [] e = tt
  all_none p (x ∷ l) e = (go (p x) e, all_none p l (omega arith))
    where
      go : (b : Bool) → bit b + count p l ≡ 0 → b ≡ false
      go true f = absurd (omega arith)
      go false f = refl

  pub none-all : (p : A → Bool) (l : List A) → All (λ x. p x ≡ false) l → count p l ≡ 0
  none-all p [] a = refl
  none-all p (x ∷ l) a = rw a.0 (omega (arith, none-all p l a.1))

  pub none-some : (p : A → Bool) (l : List A) → All (λ x. p x ≡ false) l → some p l ≡ false
  none-some p [] a = refl
  none-some p (x ∷ l) a = rw (a.0, none-some p l a.1)

  pub some-all : (p : A → Bool) (l : List A) → some p l ≡ false → All (λ x. p x ≡ false) l
  some-all p [] e = tt
  some-all p (x ∷ l) e = let h = or-none (p x) (some p l) e in (h.0, some-all p l h.1)

  -- each is counted by what it passes
  pub all-counted : (l : List A) → All (λ x. (p : A → Bool) → p x ≡ true → 0 < count p l) l
  all-counted [] = tt
  all-counted (x ∷ l) = (
    (λ p e. omega (arith, ap bit e)),
    all-into (λ y. (p : A → Bool) → p y ≡ true → 0 < count p l) (λ y. (p : A → Bool) → p y ≡ true → 0 < count p (x ∷ l))
        (λ y h p e. omega (arith, h p e)) l (all-counted l),
  )

  -- ## Some fewer, in the same order

  pub data Fewer : List A → List A → Type 0 where
    none : Fewer [] []
    less : {x : A} {l m : List A} → Fewer l m → Fewer (x ∷ l) m
    stay : {x : A} {l m : List A} → Fewer l m → Fewer (x ∷ l) (x ∷ m)

  pub fewer-same : (l : List A) → Fewer l l
  fewer-same [] = none
  fewer-same (x ∷ l) = stay (fewer-same l)

  pub fewer-then : {a b c : List A} → Fewer a b → Fewer b c → Fewer a c
  fewer-then none k = k
  fewer-then (less h) k = less (fewer-then h k)
  fewer-then (stay h) (less k) = less (fewer-then h k)
  fewer-then (stay h) (stay k) = stay (fewer-then h k)

  fewer-put : (b : Bool) (x : A) (l m : List A) → Fewer l m → Fewer (x ∷ l) (put b x m)
  fewer-put true x l m h = stay h
  fewer-put false x l m h = less h

  pub fewer-keep : (p : A → Bool) (l : List A) → Fewer l (keep p l)
  fewer-keep p [] = none
  fewer-keep p (x ∷ l) = fewer-put (p x) x l (keep p l) (fewer-keep p l)

  pub fewer-remove_at : (i : ℕ) (l : List A) → Fewer l (remove_at i l)
  unfolding remove_at
  fewer-remove_at zero [] = none
  fewer-remove_at (suc i) [] = none
  fewer-remove_at zero (x ∷ l) = less (fewer-same l)
  fewer-remove_at (suc i) (x ∷ l) = stay (fewer-remove_at i l)

  pub fewer-all : (P : A → Type 0) {l m : List A} → Fewer l m → All P l → All P m
  fewer-all P none a = tt
  fewer-all P (less h) a = fewer-all P h a.1
  fewer-all P (stay h) a = (a.0, fewer-all P h a.1)

  pub fewer-count : (p : A → Bool) {l m : List A} → Fewer l m → count p m ≤ count p l
  fewer-count p none = omega arith
  fewer-count p (less h) = omega (arith, fewer-count p h)
  fewer-count p (stay h) = omega (arith, fewer-count p h)

  pub fewer-length : {l m : List A} → Fewer l m → length m ≤ length l
  fewer-length none = omega arith
  fewer-length (less h) = omega (arith, fewer-length h)
  fewer-length (stay h) = omega (arith, fewer-length h)

-- ## In order of start, no two alike

pub fewer-sorted : {l m : List Session} → Fewer l m → Sorted l → Sorted m
fewer-sorted none o = tt
fewer-sorted (less h) o = fewer-sorted h o.1
fewer-sorted (stay {x = s} h) o = (fewer-all (λ u. s.start.0 < u.start.0) h o.0, fewer-sorted h o.1)

-- by places
pub sorted-at : (w : List Session) (i j : ℕ) (d : Session) → Sorted w → i < j → j < length w
    → (get_or w i d).start.0 < (get_or w j d).start.0
sorted-at [] i j d o h k = absurd (omega arith)
sorted-at (s ∷ w) i zero d o h k = absurd (omega arith)
sorted-at (s ∷ w) zero (suc j) d o h k = all_get_d (λ u. s.start.0 < u.start.0) w j d (omega arith) o.0
sorted-at (s ∷ w) (suc i) (suc j) d o h k = sorted-at w i j d o.1 (omega arith) (omega arith)

pub at-sorted : (w : List Session) (d : Session) → ((i j : ℕ) → i < j → j < length w → (get_or w i d).start.0 < (get_or w j d).start.0)
    → Sorted w
at-sorted [] d f = tt
at-sorted (s ∷ w) d f = (
  places-all w (λ j h. f 0 (suc j) (omega arith) (omega arith)),
  at-sorted w d (λ i j h k. f (suc i) (suc j) (omega arith) (omega arith)),
)
  where
    places-all : (l : List Session) → ((j : ℕ) → j < length l → s.start.0 < (get_or l j d).start.0) → All (λ u. s.start.0 < u.start.0) l
    places-all l g = each_at (λ u. s.start.0 < u.start.0) d l g

pub sorted-inserted : (s : Session) (w : List Session) → Sorted w → All (λ u. s.start.0 ≡ u.start.0 → ⊥) w → Sorted (inserted s w)
unfolding inserted insert_at place
sorted-inserted s [] o n = (tt, tt)
sorted-inserted s (u ∷ w) o n = go (starts_after s.start.0 u) refl (sorted-inserted s w o.1 n.1)
  where
    go : (b : Bool) → starts_after s.start.0 u ≡ b → Sorted (inserted s w)
        → Sorted (insert_at (cond b 0 (suc (place (starts_after s.start.0) w))) s (u ∷ w))
    go true e ih =
        let h = ltb-true s.start.0 u.start.0 e in
        ((h, all-into (λ v. u.start.0 < v.start.0) (λ v. s.start.0 < v.start.0) (λ v k. omega arith) w o.0), o)
    go false e ih =
        let h = ltb-false s.start.0 u.start.0 e in
        let k = n.0 in
        (all-insert_at (λ v. u.start.0 < v.start.0) (place (starts_after s.start.0) w) s w (omega arith) o.0, ih)

pub all_inserted : (P : Session → Type 0) (s : Session) (w : List Session) → P s → All P w → All P (inserted s w)
unfolding inserted
all_inserted P s w h a = all-insert_at P (place (starts_after s.start.0) w) s w h a

-- ## Each that is held

-- fewer wait, and fewer have started
pub record FewerHeld (q r : Queue) : Type 0 where
  pub waiting : Fewer q.waiting r.waiting
  pub started : Fewer q.started r.started

pub fewer-each : (P : Session → Type 0) (q r : Queue) → FewerHeld q r → Each P q → Each P r
fewer-each P q r h a = record { waiting = fewer-all P h.waiting a.waiting; started = fewer-all P h.started a.started }

pub held_then : (a b c : Queue) → FewerHeld a b → FewerHeld b c → FewerHeld a c
held_then a b c h k = record { waiting = fewer-then h.waiting k.waiting; started = fewer-then h.started k.started }

pub held_same : (q : Queue) → FewerHeld q q
held_same q = record { waiting = fewer-same q.waiting; started = fewer-same q.started }

pub all_held : (P : Session → Type 0) (q : Queue) → Each P q → All P (held q)
all_held P q a = all_append P q.waiting q.started a.waiting a.started
