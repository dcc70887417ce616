-- Laws of the list in a ring of places: it is padded with empty ones, a loop has passed a part of it, a search has halved it.
-- Rests on Words and Ring: the place i of the ring is a row of the words.
use mathlib.Core.Path.{◌≡◌, refl, sym, ap, ap₂, subst, ◌∙◌}
use mathlib.Core.List.{List, [], ◌∷◌, ◌++◌, append_assoc}
use mathlib.Core.Bool.{Bool, true, false, cond, not, ◌||◌}
use Prim.Native.Nat.{ℕ, zero, suc, ◌+◌, ◌-◌, ◌*◌, ◌/◌, ◌%◌, ◌≤◌, ◌<◌}
use native.Mathlib.Omega.{arith}
use native.Mathlib.Numerals.{add-one}
use native.Mathlib.Nat.{not-suc-le-zero, le_of_suc-le-suc}
use borrow.Author.Tests.{ne_eqb, ltb-true, ltb-false, lt-ltb, le-ltb, le-leb, lt-leb}
use lib.Dec.{eqb, ltb}
use lib.ListN.{length, take, drop, set, get_or, replicate, length-append, length-set, length-take, length-drop, length-replicate}
use lib.ListN.{take-append-drop, drop_of_length-le}
use lib.Seq.{drop-cons, drop-drop, take-length, length-take-le, take-take, get_or-take, take-append-add, drop-append-add, take_at, drop_at}
use lib.Seq.{get_or-drop, take-set-le, drop-set-add}
use Rattle.rules.specs.declared.Session.{Session}
use Rattle.rules.specs.Lists.{put, omit, some, place, insert_at, remove_at}
use Rattle.rules.specs.State.{empty, starts_at}
use Rattle.rules.specs.Follows.Wires.{Sorted}
use Rattle.rules.specs.Instants.{playing, on_air}
use Rattle.rules.proofs.Count.{length-insert_at, length-remove_at, length-split, place≤}
use Rattle.rules.proofs.Every.{all_get_d, each_at, none-some}
use Rattle.rules.proofs.Tests.{eqb_same}
use Rattle.places.specs.Places.{width, capacity, Row, round, turned, Ring, Lot, lot, places, spare, zeros, free, Good, Made, used}
use Rattle.places.specs.Places.{starts_from, ends_first, least_end, flagged}
use Rattle.places.proofs.Words.{length-places, loaded, load_is, store_is, store-spare, played_word, store-played, places-zero}
use Rattle.places.proofs.Words.{places_same}
use Rattle.places.proofs.Ring.{size, turned_none, turned_same, flat-set, row_of, row_read}

-- ## Lists

module _ {A : Type 0} where
  -- behind the front p of a list
  insert_at-add : (p l : List A) (n : ℕ) (x : A) → insert_at (length p + n) x (p ++ l) ≡ p ++ insert_at n x l
  unfolding insert_at
  insert_at-add p l n x = rw (take-append-add p l n, drop-append-add p l n, append_assoc) refl

  remove_at-add : (p l : List A) (n : ℕ) → remove_at (length p + n) (p ++ l) ≡ p ++ remove_at n l
  unfolding remove_at
  remove_at-add p l n =
      let e : suc (length p + n) ≡ length p + suc n = omega arith in
      rw (take-append-add p l n, ap (λ (j : ℕ). drop j (p ++ l)) e ∙ drop-append-add p l (suc n), append_assoc) refl

  insert_at-seam : (n : ℕ) (x : A) (l m : List A) → length l ≡ n → insert_at n x (l ++ m) ≡ l ++ (x ∷ m)
  unfolding insert_at
  insert_at-seam n x l m e = rw (take_at l m n e, drop_at l m n e) refl

  -- one of many alike
  one_more : (n : ℕ) (x : A) (l : List A) → replicate n x ++ (x ∷ l) ≡ x ∷ (replicate n x ++ l)
  one_more zero x l = refl
  one_more (suc n) x l = ap (λ r. x ∷ r) (one_more n x l)

  -- the last of them is another
  last_of : (n : ℕ) (x y : A) (l : List A) → set (replicate (suc n) x ++ l) n y ≡ replicate n x ++ (y ∷ l)
  last_of zero x y l = refl
  last_of (suc n) x y l = ap (λ r. x ∷ r) (last_of n x y l)

  -- the first goes
  pub remove_at-drop : (k i : ℕ) (l : List A) → i ≡ suc k → remove_at 0 (drop k l) ≡ drop i l
  unfolding remove_at
  remove_at-drop k i l e =
      let z : k + 1 ≡ i = omega arith in
      drop-drop 1 k l ∙ ap (λ (n : ℕ). drop n l) z

  drop-set-here : (l : List A) (k i : ℕ) (x : A) → k < length l → i ≡ suc k → drop k (set l k x) ≡ x ∷ drop i l
  drop-set-here [] k i x h e = absurd (omega arith)
  drop-set-here (y ∷ l) zero i x h e = rw e refl
  drop-set-here (y ∷ l) (suc k) i x h e = drop-set-here l k (suc k) x (le_of_suc-le-suc h) refl ∙ rw e refl

  -- what stays of a list is what stays of its parts
  omit-parts : (p : A → Bool) (i : ℕ) (l : List A) → omit p l ≡ omit p (take i l) ++ omit p (drop i l)
  omit-parts p zero l = refl
  omit-parts p (suc i) [] = refl
  omit-parts p (suc i) (x ∷ l) = go (not (p x)) (omit-parts p i l)
    where
      go : (b : Bool) → omit p l ≡ omit p (take i l) ++ omit p (drop i l)
          → put b x (omit p l) ≡ put b x (omit p (take i l)) ++ omit p (drop i l)
      go true e = ap (λ r. x ∷ r) e
      go false e = e

  -- the first that passes the test
  first-place : (p : A → Bool) (l : List A) (i : ℕ) (d : A) → i < length l → p (get_or l i d) ≡ true
      → ((j : ℕ) → j < i → p (get_or l j d) ≡ false) → i ≡ place p l
  unfolding place
  first-place p [] i d h e f = absurd (omega arith)
  first-place p (x ∷ l) zero d h e f = rw e refl
  first-place p (x ∷ l) (suc i) d h e f = rw (f 0 (omega arith))
      (ap suc (first-place p l i d (omega arith) e (λ j k. f (suc j) (omega arith))))

  some_at : (p : A → Bool) (l : List A) (i : ℕ) (d : A) → i < length l → p (get_or l i d) ≡ true → some p l ≡ true
  some_at p [] i d h e = absurd (omega arith)
  some_at p (x ∷ l) zero d h e = rw e refl
  some_at p (x ∷ l) (suc i) d h e = go (p x) (some_at p l i d (omega arith) e)
    where
      go : (b : Bool) → some p l ≡ true → (b || some p l) ≡ true
      go true f = refl
      go false f = f

  none_before : (l m : List A) → length (l ++ m) ≤ length m → l ++ m ≡ m
  none_before [] m h = refl
  none_before (x ∷ l) m h = absurd (omega (arith, length-append l m))

-- one below i + 1 is below i, or i
up_to : {P : Type 0} (i j : ℕ) → j < i + 1 → (j < i → P) → (j ≡ i → P) → P
up_to {P} i j h f g = go (ltb j i) refl
  where
    go : (b : Bool) → ltb j i ≡ b → P
    go true e = f (ltb-true j i e)
    go false e = g (omega (arith, ltb-false j i e))

-- ## The list in its places

-- the list u in the last of m places
unfoldable pub pad : ℕ → List Session → List Session
pad m u = replicate (m - length u) empty ++ u

pub length-used : (q : Lot) → Good q → length (used q) ≡ q.len
length-used q g = length-drop (free q) q.items ∙ omega (arith, g.fits)

-- good places are their list, padded
pub padded : (q : Lot) → Good q → q.items ≡ pad (length q.items) (used q)
unfolding pad
padded q g =
    sym (take-append-drop (free q) q.items)
    ∙ ap (λ r. r ++ used q) (g.clear ∙ ap (λ (n : ℕ). replicate (length q.items - n) empty) (sym (length-used q g)))

-- and what has the places of a padded list is good, and holds that list
made : (m : ℕ) (u : List Session) (q : Lot) → length u ≤ m → q.items ≡ pad m u → q.len ≡ length u → Good q × (used q ≡ u)
unfolding pad
made m u q h e n =
    let w : length q.items ≡ m = ap length e ∙ simp (length-append, length-replicate) (omega arith) in
    let z : length (replicate (m - length u) empty) ≡ m - length u = length-replicate (m - length u) empty in (
      record {
        fits = omega arith;
        clear = rw (w, e, n) (take_at (replicate (m - length u) empty) u (m - length u) z);
      },
      rw (w, e, n) (drop_at (replicate (m - length u) empty) u (m - length u) z),
    )

-- what good places hold determines them
pub same : (p q : Lot) → Good p → Good q → length p.items ≡ length q.items → used p ≡ used q → p ≡ q
same p q g h m e =
    let items : p.items ≡ q.items = padded p g ∙ ap₂ pad m e ∙ sym (padded q h) in
    let len : p.len ≡ q.len = sym (length-used p g) ∙ ap length e ∙ length-used q h in
    λ i. record { items = items i; len = len i }

-- and, with the spare ones and the ring's end, every word
pub words_same : (p q : List ℕ) (e m n : ℕ) → Good (lot p e m) → Good (lot q e n) → length p ≡ length q
    → used (lot p e m) ≡ used (lot q e n) → spare p ≡ spare q → p ≡ q
words_same p q e m n g h l u d =
    let k : capacity p ≡ capacity q = ap (λ (i : ℕ). i / width) l in
    let s = same (lot p e m) (lot q e n) g h (size p e ∙ k ∙ sym (size q e)) u in
    places_same p q l (turned_same e (places p) (places q) (length-places p ∙ k ∙ sym (length-places q)) (ap (λ r. r.items) s)) d

-- a session all of whose fields are 0: what stands where none is
pub none-is : (s : Session) → (s.conn ≡ 0) × ((s.id ≡ 0) × ((s.prior ≡ 0) × ((s.start.0 ≡ 0) × ((s.end.0 ≡ 0)
    × ((s.access ≡ 0) × ((s.overrides ≡ 0) × ((s.mux ≡ 0) × ((s.event ≡ 0) × (s.played.0 ≡ 0))))))))) → s ≡ empty
unfolding empty
none-is s e = λ i. record {
  conn = e.0 i;
  id = e.1.0 i;
  prior = e.1.1.0 i;
  start = record { 0 = e.1.1.1.0 i };
  end = record { 0 = e.1.1.1.1.0 i };
  access = e.1.1.1.1.1.0 i;
  overrides = e.1.1.1.1.1.1.0 i;
  mux = e.1.1.1.1.1.1.1.0 i;
  event = e.1.1.1.1.1.1.1.1.0 i;
  played = record { 0 = e.1.1.1.1.1.1.1.1.1 i };
}

-- zeros are good, and hold nothing
pub cleared : (m : ℕ) → Good (lot (zeros m) 0 0)
cleared m =
    let l = turned 0 (places (zeros m)) in
    let e : capacity (zeros m) ≡ length l = sym (size (zeros m) 0) in
    let z : length l - 0 ≡ length l = omega arith in
    record {
      fits = omega arith;
      clear = rw z (take-length l ∙ turned_none (places (zeros m)) ∙ places-zero m ∙ ap (λ (i : ℕ). replicate i empty) e);
    }

-- what `insert_at` leaves: the first of the free places goes, and x comes before the session `at`
pub insert-made : (q : Lot) (r : List Session) (at k : ℕ) (x : Session) → Good q → suc k ≡ free q → at ≤ q.len →
    r ≡ insert_at (k + at) x (drop 1 q.items) →
    Good (record { items = r; len = q.len + 1 }) × (used (record { items = r; len = q.len + 1 }) ≡ insert_at at x (used q))
unfolding pad
insert-made q r at k x g d a e =
    let u = used q in
    let m = length q.items in
    let n : length u ≡ q.len = length-used q g in
    let c : length (insert_at at x u) ≡ suc (length u) = length-insert_at at x u in
    let z : m - length u ≡ suc k = omega arith in
    let p = replicate k empty in
    let f : drop 1 q.items ≡ p ++ u = ap (drop 1) (padded q g ∙ ap (λ (j : ℕ). replicate j empty ++ u) z) in
    let i : insert_at (k + at) x (p ++ u) ≡ p ++ insert_at at x u =
    ap (λ (j : ℕ). insert_at (j + at) x (p ++ u)) (sym (length-replicate k empty)) ∙ insert_at-add p u at x in
    let y : k ≡ m - length (insert_at at x u) = omega arith in
    made m (insert_at at x u) (record { items = r; len = q.len + 1 }) (omega arith)
    (e ∙ ap (insert_at (k + at) x) f ∙ i ∙ ap (λ (j : ℕ). replicate j empty ++ insert_at at x u) y) (omega arith)

-- what `push` leaves: the last of the free places is x
pub push-made : (q : Lot) (r : List Session) (k : ℕ) (x : Session) → Good q → suc k ≡ free q → r ≡ set q.items k x →
    Good (record { items = r; len = q.len + 1 }) × (used (record { items = r; len = q.len + 1 }) ≡ x ∷ used q)
unfolding pad
push-made q r k x g d e =
    let u = used q in
    let m = length q.items in
    let n : length u ≡ q.len = length-used q g in
    let z : m - length u ≡ suc k = omega arith in
    let f : q.items ≡ replicate (suc k) empty ++ u = padded q g ∙ ap (λ (j : ℕ). replicate j empty ++ u) z in
    let y : k ≡ m - suc (length u) = omega arith in
    made m (x ∷ u) (record { items = r; len = q.len + 1 }) (omega arith)
    (e ∙ ap (λ l. set l k x) f ∙ last_of k empty x u ∙ ap (λ (j : ℕ). replicate j empty ++ (x ∷ u)) y) (omega arith)

-- what `remove_at` leaves: the hole, that was the session `at`, is empty before the first
pub remove-made : (q : Lot) (r : List Session) (at k : ℕ) → Good q → at < q.len → k ≡ free q →
    r ≡ insert_at k empty (remove_at (k + at) q.items) →
    Good (record { items = r; len = q.len - 1 }) × (used (record { items = r; len = q.len - 1 }) ≡ remove_at at (used q))
unfolding pad
remove-made q r at k g a d e =
    let u = used q in
    let m = length q.items in
    let n : length u ≡ q.len = length-used q g in
    let c : suc (length (remove_at at u)) ≡ length u = length-remove_at at u (omega arith) in
    let p = replicate k empty in
    let z : length p ≡ k = length-replicate k empty in
    let o : m - length u ≡ k = omega arith in
    let f : remove_at (k + at) q.items ≡ p ++ remove_at at u =
    ap (remove_at (k + at)) (padded q g ∙ ap (λ (j : ℕ). replicate j empty ++ u) o) ∙ ap (λ (j : ℕ). remove_at (j + at) (p ++ u)) (sym z)
    ∙ remove_at-add p u at in
    let y : suc k ≡ m - length (remove_at at u) = omega (arith, g.fits) in
    made m (remove_at at u) (record { items = r; len = q.len - 1 }) (omega (arith, g.fits))
    (e
    ∙ ap (insert_at k empty) f
    ∙ insert_at-seam k empty p (remove_at at u) z
    ∙ one_more k empty (remove_at at u)
    ∙ ap (λ (j : ℕ). replicate j empty ++ remove_at at u) y) (omega arith)

-- no more are used than there are places
pub used-fits : (q : List ℕ) (e n : ℕ) → Good (lot q e n) → n ≤ capacity q
used-fits q e n g = omega (arith, g.fits, size q e)

-- nor do more stay
pub stay-fits : (p : Session → Bool) (q : Lot) (k : ℕ) → Good q → k ≡ length (omit p (used q)) → k ≤ q.len
stay-fits p q k g e = omega (arith, length-split p (used q), length-used q g)

-- the session `at` of the words q: its place is one of the ring, and holds what the list has there
module _ (q : List ℕ) (e n at : ℕ) (g : Good (lot q e n)) (h : at < n) where
  pub slot-within : capacity q - n + at < capacity q
  slot-within = omega (arith, used-fits q e n g)

  pub slot_read : (d : Session) → get_or (turned e (places q)) (capacity q - n + at) d ≡ get_or (used (lot q e n)) at d
  slot_read d = ap (λ (m : ℕ). get_or (turned e (places q)) (m - n + at) d) (sym (size q e))
      ∙ sym (get_or-drop (free (lot q e n)) (turned e (places q)) at d)

  pub slot-set : (r : List Session) (x : Session) → r ≡ set (turned e (places q)) (capacity q - n + at) x →
      Good (record { items = r; len = n }) × (used (record { items = r; len = n }) ≡ set (used (lot q e n)) at x)
  slot-set r x c =
      let l = turned e (places q) in
      let k = length l - n in
      let f : r ≡ set l (k + at) x = c ∙ ap (λ (m : ℕ). set l (m - n + at) x) (sym (size q e)) in
      let m : length r ≡ length l = ap length f ∙ length-set l (k + at) x in (
        record {
          fits = omega (arith, g.fits);
          clear = rw m (ap (take k) f ∙ take-set-le k l (k + at) x (omega arith) ∙ g.clear);
        },
        rw m (ap (drop k) f ∙ drop-set-add k l at x),
      )

  -- b is its first word
  module _ (b : ℕ) (r : Ring (capacity q) e) (w : b ≡ (e + (capacity q - n + at)) % round * width) where
    pub slot_row : Row b q
    slot_row = row_of q e (capacity q - n + at) b r slot-within w

    pub slot-place : get_or (places q) (b / width) empty ≡ get_or (used (lot q e n)) at empty
    slot-place = row_read q e (capacity q - n + at) b r slot-within w empty ∙ slot_read empty

    pub slot-word : loaded q b ≡ get_or (used (lot q e n)) at empty
    slot-word = load_is q b empty slot_row ∙ slot-place

-- in places that never come round: b is its first word
module _ (q : List ℕ) (n at : ℕ) (g : Good (lot q 0 n)) (h : at < n) (b : ℕ) (w : b ≡ (capacity q - n + at) * width) where
  pub flat-row : Row b q
  flat-row = (omega arith, omega (arith, slot-within q 0 n at g h))

  pub flat_word : loaded q b ≡ get_or (used (lot q 0 n)) at empty
  flat_word =
      let i : b / width ≡ capacity q - n + at = omega arith in
      load_is q b empty flat-row
      ∙ ap₂ (λ (l : List Session) (j : ℕ). get_or l j empty) (sym (turned_none (places q))) i
      ∙ slot_read q 0 n at g h empty

-- what `play` leaves: the first has played on
first-plays : (d : ℕ) (u : List Session) → 0 < length u → set u 0 (playing d (get_or u 0 empty)) ≡ on_air d u
unfolding on_air
first-plays d [] h = absurd (not-suc-le-zero h)
first-plays d (x ∷ u) h = refl

pub play-made : (q : List ℕ) (n d b : ℕ) → Good (lot q 0 n) → 0 < n → b ≡ (capacity q - n) * width →
    Made q (set q (b + played_word) (get_or q (b + played_word) 0 + d)) 0 n (on_air d (used (lot q 0 n)))
play-made q n d b g h w =
    let v : b ≡ (capacity q - n + 0) * width = omega arith in
    let r = flat-row q n 0 g h b v in
    let x = playing d (loaded q b) in
    let y = store-played q b d in
    let p = ap places (sym y) ∙ store_is q b x (omega arith) r in
    let m = slot-set q 0 n 0 g h _ x (flat-set q b (capacity q - n + 0) x (omega arith) _ p) in
    let u = used (lot q 0 n) in
    record {
      good = m.0;
      list = m.1 ∙ ap (λ s. set u 0 (playing d s)) (flat_word q n 0 g h b v) ∙ first-plays d u (omega (arith, length-used (lot q 0 n) g));
      rest = ap spare (sym y) ∙ store-spare q b x r;
    }

-- ## Loops over the used places: i of them are passed, and the rest decides

abbrev pub Sought : (Session → Bool) → Lot → ℕ → Type 0
Sought p q i = (i ≤ q.len) × (place p (used q) ≡ i + place p (drop i (used q)))

-- the session i is the head of the rest
pub head : (q : Lot) (i : ℕ) (d : Session) → Good q → i < q.len → drop i (used q) ≡ get_or (used q) i d ∷ drop (i + 1) (used q)
head q i d g h =
    let n : length (used q) ≡ q.len = length-used q g in
    drop-cons (used q) i d (omega arith) ∙ rw add-one

pub at-end : (q : Lot) (i : ℕ) → Good q → q.len ≤ i → drop i (used q) ≡ []
at-end q i g h =
    let n : length (used q) ≡ q.len = length-used q g in
    drop_of_length-le (used q) {i = i} (omega arith)

pub cleared-none : (m : ℕ) → used (lot (zeros m) 0 0) ≡ []
cleared-none m = at-end (lot (zeros m) 0 0) 0 (cleared m) (omega arith)

pub sought-none : (p : Session → Bool) (q : Lot) → Sought p q 0
sought-none p q = (omega arith, omega arith)

pub sought-more : (p : Session → Bool) (q : Lot) (i : ℕ) (d : Session) → Good q → i < q.len → p (get_or (used q) i d) ≡ false → Sought p q i
    → Sought p q (i + 1)
unfolding place
sought-more p q i d g h e s =
    let f : place p (drop i (used q)) ≡ suc (place p (drop (i + 1) (used q))) = rw (head q i d g h, e) refl in
    (omega arith, omega (arith, s.1))

pub sought-hit : (p : Session → Bool) (q : Lot) (i : ℕ) (d : Session) → Good q → i < q.len → p (get_or (used q) i d) ≡ true → Sought p q i
    → i ≡ place p (used q)
unfolding place
sought-hit p q i d g h e s =
    let f : place p (drop i (used q)) ≡ 0 = rw (head q i d g h, e) refl in
    omega (arith, s.1)

pub sought-out : (p : Session → Bool) (q : Lot) (i : ℕ) → Good q → q.len ≤ i → Sought p q i → i ≡ place p (used q)
unfolding place
sought-out p q i g h s =
    let f : place p (drop i (used q)) ≡ 0 = rw (at-end q i g h) refl in
    omega (arith, s.1)

-- ## A search by halving: the place lies from `low` on, and not behind `high`

abbrev pub Halved : ℕ → Lot → ℕ → ℕ → Type 0
Halved t q low high = (low ≤ place (starts_from t) (used q)) × (place (starts_from t) (used q) ≤ high) × (high ≤ q.len)

place-before : (p : Session → Bool) (l : List Session) (i : ℕ) (d : Session) → p (get_or l i d) ≡ true → i < length l → place p l ≤ i
unfolding place
place-before p [] i d e h = absurd (not-suc-le-zero h)
place-before p (x ∷ l) zero d e h = rw e (omega arith)
place-before p (x ∷ l) (suc i) d e h = go (p x) (place-before p l i d e (le_of_suc-le-suc h))
  where
    go : (b : Bool) → place p l ≤ i → cond b 0 (suc (place p l)) ≤ suc i
    go true k = omega arith
    go false k = omega arith

place-behind : (t : ℕ) (l : List Session) (i : ℕ) (d : Session) → Sorted l → (get_or l i d).start.0 < t → i < length l
    → i < place (starts_from t) l
unfolding place
place-behind t [] i d o e h = absurd (not-suc-le-zero h)
place-behind t (x ∷ l) zero d o e h = rw (lt-leb t x.start.0 e) (omega arith)
place-behind t (x ∷ l) (suc i) d o e h =
    let k = le_of_suc-le-suc h in
    rw (lt-leb t x.start.0 (omega (arith, all_get_d (λ u. x.start.0 < u.start.0) l i d k o.0)))
    (omega (arith, place-behind t l i d o.1 e k))

pub halved-all : (t : ℕ) (q : Lot) → Good q → Halved t q 0 q.len
halved-all t q g = (omega arith, omega (arith, place≤ (starts_from t) (used q), length-used q g), omega arith)

module _ (t : ℕ) (q : Lot) (low high mid : ℕ) (g : Good q) (h : mid < high) (s : Halved t q low high) where
  pub halved-low : (get_or (used q) mid empty).start.0 < t → Sorted (used q) → Halved t q (mid + 1) high
  halved-low e o = (omega (arith, place-behind t (used q) mid empty o e (omega (arith, length-used q g, s.2))), s.1, s.2)

  pub halved-high : t ≤ (get_or (used q) mid empty).start.0 → Halved t q low mid
  halved-high e = (
    s.0,
    place-before (starts_from t) (used q) mid empty (le-leb t (get_or (used q) mid empty).start.0 e)
        (omega (arith, length-used q g, s.2)),
    omega (arith, s.2),
  )

-- ## The place of the first end: best is among the first i, ends first of them, and none before it ends as early

abbrev end_of : List Session → ℕ → ℕ
end_of u i = (get_or u i empty).end.0

pub record Leading (u : List Session) (i best : ℕ) : Type 0 where
  pub among : best < i
  pub fits : i ≤ length u
  pub least : (j : ℕ) → j < i → end_of u best ≤ end_of u j
  pub first : (j : ℕ) → j < best → end_of u best < end_of u j

pub leading-none : (u : List Session) → 0 < length u → Leading u 1 0
leading-none u h =
    record {
      among = omega arith;
      fits = omega arith;
      least = λ j k. let e : j ≡ 0 = omega arith in omega (arith, ap (end_of u) e);
      first = λ j k. absurd (omega arith);
    }

module _ (u : List Session) (i best : ℕ) (h : i < length u) (v : Leading u i best) where
  -- the session i ends earlier than all before it, or not
  pub leading-next : end_of u i < end_of u best → Leading u (i + 1) i
  leading-next e =
      record {
        among = omega arith;
        fits = omega arith;
        least = λ j k. up_to i j k (λ m. omega (arith, v.least j m)) (λ m. omega (arith, ap (end_of u) m));
        first = λ j k. omega (arith, v.least j k);
      }

  pub leading-stays : end_of u best ≤ end_of u i → Leading u (i + 1) best
  leading-stays e =
      record {
        among = omega (arith, v.among);
        fits = omega arith;
        least = λ j k. up_to i j k (v.least j) (λ m. omega (arith, ap (end_of u) m));
        first = v.first;
      }

pub leading-out : (u : List Session) (i best : ℕ) → length u ≤ i → Leading u i best → best ≡ least_end u
unfolding least_end
leading-out u i best h v =
    first-place (ends_first u) u best empty (omega (arith, v.among, v.fits))
    (ap not (none-some _ u (each_at _ empty u (λ j k. le-ltb (end_of u j) (end_of u best) (v.least j (omega arith))))))
    (λ j k. ap not (some_at _ u best empty (omega (arith, v.among, v.fits)) (lt-ltb (end_of u best) (end_of u j) (v.first j k))))

-- where there is one, one ends first
leads : (u : List Session) (k : ℕ) → k < length u → (b : ℕ) × Leading u (k + 1) b
leads u zero h = (0, leading-none u h)
leads u (suc k) h = let v = leads u k (omega arith) in go v.0 v.1 (ltb (end_of u (suc k)) (end_of u v.0)) refl
  where
    go : (b : ℕ) → Leading u (k + 1) b → (t : Bool) → ltb (end_of u (suc k)) (end_of u b) ≡ t → (b : ℕ) × Leading u (suc k + 1) b
    go b v true e = (suc k, leading-next u (suc k) b h (rw add-one at v) (ltb-true (end_of u (suc k)) (end_of u b) e))
    go b v false e = (b, leading-stays u (suc k) b h (rw add-one at v) (ltb-false (end_of u (suc k)) (end_of u b) e))

pub least-leads : (u : List Session) → 0 < length u → Leading u (length u) (least_end u)
least-leads u h =
    let e : length u - 1 + 1 ≡ length u = omega arith in
    let v = leads u (length u - 1) (omega arith) in
    let w : Leading u (length u) v.0 = subst (λ (i : ℕ). Leading u i v.0) e v.1 in
    subst (λ (b : ℕ). Leading u (length u) b) (leading-out u (length u) v.0 (omega arith) w) w

-- ## Closing up, from the last on: the first i are as they were, and behind `to` stands what stays of the others

pub record Omitting (p : Session → Bool) (u : List Session) (l : Lot) (i to : ℕ) : Type 0 where
  pub good : Good l
  pub ahead : i ≤ to
  pub fits : to ≤ l.len
  pub front : take i (used l) ≡ take i u
  pub back : drop to (used l) ≡ omit p (drop i u)

-- none stands behind the last
pub none-behind : (p : Session → Bool) (l : Lot) → Good l → drop l.len (used l) ≡ omit p (drop l.len (used l))
none-behind p l g =
    let z : drop l.len (used l) ≡ [] = at-end l l.len g (omega arith) in
    rw z refl

module _ (p : Session → Bool) (u : List Session) (l : Lot) (i to j : ℕ) (v : Omitting p u l i to) (e : i ≡ suc j) where
  -- the session j is still the one of the beginning, and the head of what is next
  short-in : j < length u
  short-in =
      let n : length (used l) ≡ l.len = length-used l v.good in
      let m = length-take-le i (used l) (omega (arith, v.ahead, v.fits)) in
      omega (arith, length-take i u, ap length v.front)

  same-in : get_or (used l) j empty ≡ get_or u j empty
  same-in =
      sym (get_or-take i (used l) j empty (omega arith)) ∙ ap (λ (r : List Session). get_or r j empty) v.front
      ∙ get_or-take i u j empty (omega arith)

  next-in : drop j u ≡ get_or (used l) j empty ∷ drop i u
  next-in =
      drop-cons u j empty short-in
      ∙ ap (λ (k : ℕ). get_or u j empty ∷ drop k u) (sym e)
      ∙ ap (λ (y : Session). y ∷ drop i u) (sym same-in)

  front-in : take j (used l) ≡ take j u
  front-in = sym (take-take j i (used l) (omega arith)) ∙ ap (take j) v.front ∙ take-take j i u (omega arith)

  -- what is told of it as one of u is so of it here
  pub gone-in : (r : Bool) → (j < length u → get_or (used l) j empty ≡ get_or u j empty → r ≡ p (get_or u j empty))
      → p (get_or (used l) j empty) ≡ r
  gone-in r f = ap p same-in ∙ sym (f short-in same-in)

  pub omitting-goes : p (get_or (used l) j empty) ≡ true → Omitting p u l j to
  omitting-goes d =
      record {
        good = v.good;
        ahead = omega (arith, v.ahead);
        fits = v.fits;
        front = front-in;
        back =
            v.back ∙ sym (rw (next-in, d) refl);
      }

  pub omitting-stays : (m : Lot) (k : ℕ) → suc k ≡ to → p (get_or (used l) j empty) ≡ false → Good m → m.len ≡ l.len
      → used m ≡ set (used l) k (get_or (used l) j empty) → Omitting p u m j k
  omitting-stays m k f d g n w =
      let o : length (used l) ≡ l.len = length-used l v.good in
      let x = get_or (used l) j empty in
      record {
        good = g;
        ahead = omega (arith, v.ahead);
        fits = omega (arith, v.fits);
        front = ap (take j) w ∙ take-set-le j (used l) k x (omega (arith, v.ahead)) ∙ front-in;
        back = ap (drop k) w ∙ drop-set-here (used l) k to x (omega (arith, v.fits)) (omega arith) ∙ ap (λ r. x ∷ r) v.back
            ∙ sym (rw (next-in, d) refl);
      }

-- `left` of them stay in all
module _ (p : Session → Bool) (u : List Session) (l : Lot) (i to left : ℕ) (v : Omitting p u l i to) (e : left ≡ length (omit p u)) where
  stays-behind : l.len - to ≡ length (omit p (drop i u))
  stays-behind =
      let n : length (used l) ≡ l.len = length-used l v.good in
      omega (arith, length-drop to (used l), ap length v.back)

  -- with fewer behind `to`, one that stays is still ahead
  pub omitting-ahead : l.len - left < to → 0 < i
  omitting-ahead h = go i stays-behind
    where
      go : (k : ℕ) → l.len - to ≡ length (omit p (drop k u)) → 0 < k
      go zero d = absurd (omega (arith, v.fits))
      go (suc k) d = omega arith

  -- and with as many, all that goes is before them
  pub omitting-done : left ≤ l.len → to ≤ l.len - left → drop (l.len - left) (used l) ≡ omit p u
  omitting-done f h =
      let d : length (omit p (take i u) ++ omit p (drop i u)) ≡ left = ap length (sym (omit-parts p i u)) ∙ sym e in
      let b : to ≡ l.len - left =
      omega (arith, v.fits, stays-behind, length-append (omit p (take i u)) (omit p (drop i u))) in
      ap (λ (k : ℕ). drop k (used l)) (sym b) ∙ v.back
      ∙ sym (omit-parts p i u ∙ none_before (omit p (take i u)) (omit p (drop i u)) (omega (arith, v.fits, stays-behind)))

-- ## The same by flags: in order of start, each has its place

sorted-place : (u : List Session) (i : ℕ) → Sorted u → i < length u → place (starts_at (get_or u i empty).start.0) u ≡ i
unfolding place
sorted-place [] i o h = absurd (omega arith)
sorted-place (s ∷ u) zero o h = rw (eqb_same s.start.0) refl
sorted-place (s ∷ u) (suc i) o h =
    let later : s.start.0 < (get_or u i empty).start.0 = all_get_d (λ v. s.start.0 < v.start.0) u i empty (omega arith) o.0 in
    rw (ne_eqb (get_or u i empty).start.0 s.start.0 (λ e. omega arith)) (ap suc (sorted-place u i o.1 (omega arith)))

pub flag_at : (f : List ℕ) (u : List Session) (i : ℕ) → Sorted u → i < length u → flagged f u (get_or u i empty) ≡ eqb 1 (get_or f i 0)
flag_at f u i o h = ap (λ (k : ℕ). eqb 1 (get_or f k 0)) (sorted-place u i o h)
