-- Laws of the ring of places: a place of it is a row of the lent words, and turned by one more the first goes behind the last.
-- Rests on Words: a place is read and written as an element of a list.
use mathlib.Core.Path.{◌≡◌, refl, sym, ap, ap₂, ◌∙◌}
use mathlib.Core.List.{List, [], ◌∷◌, ◌++◌, append_assoc, append-nil}
use mathlib.Core.Bool.{Bool, true, false}
use Prim.Native.Nat.{ℕ, zero, suc, ◌+◌, ◌-◌, ◌*◌, ◌/◌, ◌%◌, ◌≤◌, ◌<◌}
use native.Mathlib.Omega.{arith}
use native.Mathlib.Nat.{not-suc-le-zero, le_of_suc-le-suc, zero-add}
use lib.ListN.{length, take, drop, set, get_or, length-append, length-take, length-drop, take-append-drop, drop_of_length-le}
use lib.Seq.{get_or-append-add, set-append_left, get_or-take, get_or-drop, take-set-le, take-set-lt, drop-set-lt, drop-set-add, drop-cons}
use lib.Seq.{take-suc, take_all, take_at, drop_at}
use lib.Dec.{ltb}
use borrow.Author.Tests.{ltb-true, ltb-false}
use Rattle.rules.specs.declared.Session.{Session}
use Rattle.rules.specs.Lists.{insert_at, remove_at}
use Rattle.rules.specs.State.{empty}
use Rattle.places.specs.Places.{width, capacity, Row, places, round, turned, Ring, next}
use Rattle.places.proofs.Words.{length-places}

-- ## Lists

module _ {A : Type 0} where
  -- a hole moves: what stood before it goes in, and the rest stays
  hole-before : (l : List A) (i : ℕ) (d : A) → suc i < length l → remove_at i (set l (suc i) (get_or l i d)) ≡ remove_at (suc i) l
  unfolding remove_at
  hole-before [] i d h = absurd (not-suc-le-zero h)
  hole-before (x ∷ []) zero d h = absurd (omega arith)
  hole-before (x ∷ y ∷ l) zero d h = refl
  hole-before (x ∷ l) (suc i) d h = ap (λ r. x ∷ r) (hole-before l i d (le_of_suc-le-suc h))

  -- and is filled
  hole-filled : (l : List A) (i : ℕ) (x : A) → i < length l → set l i x ≡ insert_at i x (remove_at i l)
  unfolding insert_at remove_at
  hole-filled [] i x h = absurd (not-suc-le-zero h)
  hole-filled (y ∷ l) zero x h = refl
  hole-filled (y ∷ l) (suc i) x h = ap (λ r. y ∷ r) (hole-filled l i x (le_of_suc-le-suc h))

  remove_at-last : (l : List A) (x : A) (n : ℕ) → length l ≡ n → remove_at n (l ++ (x ∷ [])) ≡ l
  unfolding remove_at
  remove_at-last [] x n e = rw (sym e) refl
  remove_at-last (y ∷ l) x n e = rw (sym e) (ap (λ r. y ∷ r) (remove_at-last l x (length l) refl))

  -- the first part of two
  get_left : (p q : List A) (i : ℕ) (d : A) → i < length p → get_or (p ++ q) i d ≡ get_or p i d
  get_left [] q i d h = absurd (not-suc-le-zero h)
  get_left (x ∷ p) q zero d h = refl
  get_left (x ∷ p) q (suc i) d h = get_left p q i d (le_of_suc-le-suc h)

  set-right : (p q : List A) (i : ℕ) (x : A) → set (p ++ q) (length p + i) x ≡ p ++ set q i x
  set-right [] q i x = rw (zero-add i) refl
  set-right (y ∷ p) q i x =
      let e : suc (length p) + i ≡ suc (length p + i) = omega arith in
      rw e (ap (λ r. y ∷ r) (set-right p q i x))

-- ## Turned

pub length-turned : (e : ℕ) (l : List Session) → length (turned e l) ≡ length l
unfolding turned
length-turned e l = simp (length-append, length-drop, length-take) (omega arith)

-- the ring has a place for each row
pub size : (q : List ℕ) (e : ℕ) → length (turned e (places q)) ≡ capacity q
size q e = length-turned e (places q) ∙ length-places q

-- what never comes round
pub turned_none : (l : List Session) → turned 0 l ≡ l
unfolding turned
turned_none l = append-nil l

pub flat-set : (q : List ℕ) (b i : ℕ) (x : Session) → b / width ≡ i → (o : List Session) → o ≡ set (places q) (b / width) x →
    turned 0 o ≡ set (turned 0 (places q)) i x
flat-set q b i x z o c = turned_none o ∙ c ∙ ap₂ (λ (l : List Session) (j : ℕ). set l j x) (sym (turned_none (places q))) z

-- turned alike, they are alike
pub turned_same : (e : ℕ) (l m : List Session) → length l ≡ length m → turned e l ≡ turned e m → l ≡ m
unfolding turned
turned_same e l m n t =
    let a : length (drop e l) ≡ length l - e = length-drop e l in
    let b : length (drop e m) ≡ length l - e = length-drop e m ∙ ap (λ (j : ℕ). j - e) (sym n) in
    let k = length l - e in
    let back : drop e l ≡ drop e m = sym (take_at (drop e l) (take e l) k a) ∙ ap (take k) t ∙ take_at (drop e m) (take e m) k b in
    let front : take e l ≡ take e m = sym (drop_at (drop e l) (take e l) k a) ∙ ap (drop k) t ∙ drop_at (drop e m) (take e m) k b in
    sym (take-append-drop e l) ∙ ap₂ ◌++◌ front back ∙ take-append-drop e m

-- the place i is the row e + i, or, behind the last, lies that far behind the first
turned-near : (e i : ℕ) (l : List Session) (d : Session) → e + i < length l → get_or (turned e l) i d ≡ get_or l (e + i) d
unfolding turned
turned-near e i l d h =
    let n : length (drop e l) ≡ length l - e = length-drop e l in
    get_left (drop e l) (take e l) i d (omega arith) ∙ get_or-drop e l i d

turned-far : (e i k : ℕ) (l : List Session) (d : Session) → e ≤ length l → i ≡ length l - e + k → k < e
    → get_or (turned e l) i d ≡ get_or l k d
unfolding turned
turned-far e i k l d g z h =
    let n : length (drop e l) ≡ length l - e = length-drop e l in
    ap (λ (j : ℕ). get_or (drop e l ++ take e l) j d) (z ∙ ap (λ (j : ℕ). j + k) (sym n)) ∙ get_or-append-add (drop e l) (take e l) k d
    ∙ get_or-take e l k d h

set-near : (e i : ℕ) (l : List Session) (x : Session) → e + i < length l → turned e (set l (e + i) x) ≡ set (turned e l) i x
unfolding turned
set-near e i l x h =
    let n : length (drop e l) ≡ length l - e = length-drop e l in
    rw (drop-set-add e l i x, take-set-le e l (e + i) x (omega arith)) (sym (set-append_left (drop e l) (take e l) i x (omega arith)))

set-far : (e i k : ℕ) (l : List Session) (x : Session) → e ≤ length l → i ≡ length l - e + k → k < e
    → turned e (set l k x) ≡ set (turned e l) i x
unfolding turned
set-far e i k l x g z h =
    let n : length (drop e l) ≡ length l - e = length-drop e l in
    let w : i ≡ length (drop e l) + k = z ∙ ap (λ (j : ℕ). j + k) (sym n) in
    rw (drop-set-lt e l k x h, take-set-lt e l k x h) (sym (ap (λ (j : ℕ). set (drop e l ++ take e l) j x) w
    ∙ set-right (drop e l) (take e l) k x))

-- ## By the remainder

pub ring-same : (k m e : ℕ) → Ring k e → m ≡ k → Ring m e
ring-same k m e g h = rw h g

pub ring-small : (k e : ℕ) → Ring k e → (k ≤ round) × (e < round)
ring-small k zero g = (g, omega arith)
ring-small k (suc e) g = (omega (arith, g.0), g.1)

pub ring-full : (k e : ℕ) → k ≡ round → e < round → Ring k e
ring-full k zero h g = omega arith
ring-full k (suc e) h g = (h, g)

pub ring-next : (k e : ℕ) → k ≡ round → Ring k (next e)
ring-next k e h = ring-full k (next e) h (omega arith)

-- the place i is one of the rows
ring-within : (k e i : ℕ) → Ring k e → i < k → (e + i) % round < k
ring-within k zero i g h = omega arith
ring-within k (suc e) i g h = omega (arith, g.0)

ring-inside : (k e i : ℕ) → Ring k e → i < k → e < k
ring-inside k zero i g h = omega arith
ring-inside k (suc e) i g h = omega (arith, g.0, g.1)

ring-near : (k e i : ℕ) → Ring k e → e + i < k → (e + i) % round ≡ e + i
ring-near k e i g h = omega (arith, (ring-small k e g).0)

ring-far : (k e i : ℕ) → Ring k e → i < k → k ≤ e + i → (e + i) % round ≡ e + i - k
ring-far k zero i g h m = absurd (omega arith)
ring-far k (suc e) i g h m = omega (arith, g.0, g.1)

module _ (e i : ℕ) (l : List Session) (g : Ring (length l) e) (h : i < length l) where
  turned-get : (d : Session) → get_or l ((e + i) % round) d ≡ get_or (turned e l) i d
  turned-get d = go (ltb (e + i) (length l)) refl
    where
      go : (b : Bool) → ltb (e + i) (length l) ≡ b → get_or l ((e + i) % round) d ≡ get_or (turned e l) i d
      go true c =
          let k = ltb-true (e + i) (length l) c in
          rw (ring-near (length l) e i g k) (sym (turned-near e i l d k))
      go false c =
          let k = ltb-false (e + i) (length l) c in
          let z = ring-inside (length l) e i g h in
          rw (ring-far (length l) e i g h k) (sym (turned-far e i (e + i - length l) l d (omega arith) (omega arith) (omega arith)))

  turned_set : (x : Session) → turned e (set l ((e + i) % round) x) ≡ set (turned e l) i x
  turned_set x = go (ltb (e + i) (length l)) refl
    where
      go : (b : Bool) → ltb (e + i) (length l) ≡ b → turned e (set l ((e + i) % round) x) ≡ set (turned e l) i x
      go true c =
          let k = ltb-true (e + i) (length l) c in
          rw (ring-near (length l) e i g k) (set-near e i l x k)
      go false c =
          let k = ltb-false (e + i) (length l) c in
          let z = ring-inside (length l) e i g h in
          rw (ring-far (length l) e i g h k) (set-far e i (e + i - length l) l x (omega arith) (omega arith) (omega arith))

-- b is the first word of the place i of the ring
module _ (q : List ℕ) (e i b : ℕ) (g : Ring (capacity q) e) (h : i < capacity q) (w : b ≡ (e + i) % round * width) where
  pub row_of : Row b q
  row_of = (omega arith, omega (arith, ring-within (capacity q) e i g h))

  number : b / width ≡ (e + i) % round
  number = omega arith

  pub row_read : (d : Session) → get_or (places q) (b / width) d ≡ get_or (turned e (places q)) i d
  row_read d =
      ap (λ (j : ℕ). get_or (places q) j d) number
      ∙ turned-get e i (places q) (ring-same (capacity q) (length (places q)) e g (length-places q)) (omega (arith, length-places q)) d

  pub row-set : (x : Session) → turned e (set (places q) (b / width) x) ≡ set (turned e (places q)) i x
  row-set x =
      ap (λ (j : ℕ). turned e (set (places q) j x)) number
      ∙ turned_set e i (places q) (ring-same (capacity q) (length (places q)) e g (length-places q)) (omega (arith, length-places q)) x

  -- the hole i filled
  pub fills : (o : List Session) (x : Session) → o ≡ set (places q) (b / width) x
      → turned e o ≡ insert_at i x (remove_at i (turned e (places q)))
  fills o x c = ap (turned e) c ∙ row-set x ∙ hole-filled (turned e (places q)) i x (omega (arith, size q e))

-- one turn of a loop: what stands in the place before goes into the hole k, and the hole is there
pub shifts : (q : List ℕ) (e i k a b : ℕ) → Ring (capacity q) e → k ≡ suc i → k < capacity q →
    a ≡ (e + i) % round * width → b ≡ (e + k) % round * width →
    (o : List Session) (y : Session) → y ≡ get_or (places q) (a / width) empty → o ≡ set (places q) (b / width) y →
    remove_at i (turned e o) ≡ remove_at k (turned e (places q))
shifts q e i k a b g z h v w o y c d =
    let t = turned e (places q) in
    let x : y ≡ get_or t i empty = c ∙ row_read q e i a g (omega arith) v empty in
    let n : suc i < length t = omega (arith, size q e) in
    ap (λ r. remove_at i (turned e r)) d
    ∙ ap (remove_at i) (row-set q e k b g h w y ∙ ap₂ (λ (j : ℕ) (s : Session). set t j s) z x)
    ∙ hole-before t i empty n
    ∙ ap (λ (j : ℕ). remove_at j t) (sym z)

-- turned by one more the first goes behind the last
pub turned-next : (e : ℕ) (l : List Session) (d : Session) → length l ≡ round → e < round
    → turned (next e) l ≡ drop 1 (turned e l) ++ (get_or (turned e l) 0 d ∷ [])
unfolding turned
turned-next e l d m h = go (ltb (e + 1) round) refl
  where
    x : Session
    x = get_or l e d

    one : drop e l ≡ get_or l e d ∷ drop (suc e) l
    one = drop-cons l e d (omega arith)

    right : drop 1 (drop e l ++ take e l) ++ (get_or (drop e l ++ take e l) 0 d ∷ []) ≡ drop (suc e) l ++ take (suc e) l
    right = rw one (append_assoc (drop (suc e) l) (take e l) (x ∷ []) ∙ ap (λ r. drop (suc e) l ++ r) (sym (take-suc l e d (omega arith))))

    go : (b : Bool) → ltb (e + 1) round ≡ b → turned (next e) l ≡ drop 1 (turned e l) ++ (get_or (turned e l) 0 d ∷ [])
    go true c =
        let k = ltb-true (e + 1) round c in
        let z : next e ≡ suc e = omega arith in
        rw z (sym right)
    go false c =
        let k = ltb-false (e + 1) round c in
        let z : next e ≡ 0 = omega arith in
        let y : length l ≤ suc e = omega arith in
        let w : drop (suc e) l ++ take (suc e) l ≡ l = rw (drop_of_length-le l {i = suc e} y, take_all (suc e) l y) refl in
        rw z (append-nil l ∙ sym w ∙ sym right)

-- without that place: what an acceptance takes
pub turned_taken : (e : ℕ) (l : List Session) → length l ≡ round → e < round
    → remove_at (round - 1) (turned (next e) l) ≡ drop 1 (turned e l)
turned_taken e l m h =
    let n : length (drop 1 (turned e l)) ≡ round - 1 = length-drop 1 (turned e l) ∙ omega (arith, length-turned e l) in
    ap (remove_at (round - 1)) (turned-next e l empty m h) ∙ remove_at-last (drop 1 (turned e l)) (get_or (turned e l) 0 empty) (round - 1)
    n
