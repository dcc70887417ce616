-- 02, CR 8: the words of what ended lately: what they show determines them, one of them written anew, and words made for some.
-- Assumes nothing; speaks of these words alone.
use mathlib.Core.Path.{◌≡◌, refl, sym, ap, ◌∙◌}
use mathlib.Core.Bool.{Bool, true, false}
use mathlib.Core.List.{List, [], ◌∷◌, ◌++◌}
use Prim.Native.Nat.{ℕ, zero, suc, ◌+◌, ◌*◌, ◌%◌, ◌≤◌, ◌<◌}
use native.Mathlib.Omega.{arith}
use lib.Dec.{eqb}
use lib.ListN.{length, drop, set, get_or, length-set, length-drop, drop_of_length-le}
use lib.Seq.{drop-cons, drop-drop, get_or-drop, get_or-set_same, get_or-set_other, ext_get_or}
use borrow.Author.Tests.{eqb-true, eqb-false}
use Rattle.rules.specs.declared.Past.{Past}
use Rattle.rules.specs.State.{Lately}
use Rattle.rules.specs.Recent.{most_kept, unused, none_ended, remembered}
use Rattle.places.specs.Places.{zeros}
use Rattle.memory.specs.Memory.{past_width, past_words, late_size, past_of, pasts, next_in, lately_in}

length-pasts : (n : ℕ) (q : List ℕ) → length (pasts n q) ≡ n
unfolding pasts
length-pasts zero q = refl
length-pasts (suc n) q = ap suc (length-pasts n (drop past_width q))

-- the one at the place i
abbrev pub past_at : List ℕ → ℕ → Past
past_at q i = past_of (λ k. get_or q (i * past_width + k) 0)

pub pasts-at : (n i : ℕ) (q : List ℕ) → i < n → get_or (pasts n q) i unused ≡ past_at q i
unfolding pasts
pasts-at zero i q h = absurd (omega arith)
pasts-at (suc n) zero q h = refl
pasts-at (suc n) (suc i) q h =
    pasts-at n i (drop past_width q) (omega arith)
    ∙ (λ j. past_of (λ k. (get_or-drop past_width q (i * past_width + k) 0 ∙ ap (λ (b : ℕ). get_or q b 0) (further k)) j))
  where
    further : (k : ℕ) → past_width + (i * past_width + k) ≡ suc i * past_width + k
    further k = omega arith

-- ## They are determined

-- the words of each
unfoldable pub flat_past : List Past → List ℕ
flat_past [] = []
flat_past (e ∷ l) = e.conn ∷ e.id ∷ e.event ∷ e.result ∷ e.played ∷ flat_past l

five : (q : List ℕ) → past_width ≤ length q
    → q ≡ get_or q 0 0 ∷ get_or q 1 0 ∷ get_or q 2 0 ∷ get_or q 3 0 ∷ get_or q 4 0 ∷ drop past_width q
five q h =
    drop-cons q 0 0 (omega arith)
    ∙ ap (λ (z : List ℕ). get_or q 0 0 ∷ z) (drop-cons q 1 0 (omega arith))
    ∙ ap (λ (z : List ℕ). get_or q 0 0 ∷ get_or q 1 0 ∷ z) (drop-cons q 2 0 (omega arith))
    ∙ ap (λ (z : List ℕ). get_or q 0 0 ∷ get_or q 1 0 ∷ get_or q 2 0 ∷ z) (drop-cons q 3 0 (omega arith))
    ∙ ap (λ (z : List ℕ). get_or q 0 0 ∷ get_or q 1 0 ∷ get_or q 2 0 ∷ get_or q 3 0 ∷ z) (drop-cons q 4 0 (omega arith))

flat-pasts : (n : ℕ) (q : List ℕ) → n * past_width ≤ length q → q ≡ flat_past (pasts n q) ++ drop (n * past_width) q
unfolding pasts flat_past
flat-pasts zero q h = refl
flat-pasts (suc n) q h =
    let e : past_width + n * past_width ≡ suc n * past_width = omega arith in
    let r = drop past_width q in
    five q (omega arith)
    ∙ ap (λ (z : List ℕ). get_or q 0 0 ∷ get_or q 1 0 ∷ get_or q 2 0 ∷ get_or q 3 0 ∷ get_or q 4 0 ∷ z)
    (flat-pasts n r (omega (arith, length-drop past_width q)) ∙ ap (λ (z : List ℕ). flat_past (pasts n r) ++ z)
    (drop-drop (n * past_width) past_width q ∙ ap (λ (k : ℕ). drop k q) e))

late-parts : (q : List ℕ) → length q ≡ late_size → q ≡ flat_past (pasts most_kept q) ++ (next_in q ∷ [])
late-parts q h =
    flat-pasts most_kept q (omega arith)
    ∙ ap (λ (z : List ℕ). flat_past (pasts most_kept q) ++ z)
    (drop-cons q past_words 0 (omega arith) ∙ ap (λ (z : List ℕ). next_in q ∷ z) (drop_of_length-le q {i = suc past_words} (omega arith)))

pub late-same : (p q : List ℕ) → length p ≡ late_size → length q ≡ late_size → lately_in p ≡ lately_in q → p ≡ q
late-same p q h k e =
    late-parts p h ∙ (λ i. flat_past (e i).places ++ ((e i).next ∷ [])) ∙ sym (late-parts q k)

-- ## Words made for some

pub length-flat_past : (l : List Past) → length (flat_past l) ≡ length l * past_width
unfolding flat_past
length-flat_past [] = refl
length-flat_past (e ∷ l) = omega (arith, length-flat_past l)

pub pasts-flat : (l : List Past) (r : List ℕ) → pasts (length l) (flat_past l ++ r) ≡ l
unfolding pasts flat_past
pasts-flat [] r = refl
pasts-flat (e ∷ l) r = ap (λ (z : List Past). e ∷ z) (pasts-flat l r)

get_d-behind : (l r : List ℕ) (k : ℕ) → get_or (l ++ r) (length l + k) 0 ≡ get_or r k 0
get_d-behind [] r k = let e : 0 + k ≡ k = omega arith in ap (λ (n : ℕ). get_or r n 0) e
get_d-behind (x ∷ l) r k =
    let e : suc (length l) + k ≡ suc (length l + k) = omega arith in
    ap (λ (n : ℕ). get_or (x ∷ (l ++ r)) n 0) e ∙ get_d-behind l r k

abbrev pub late_words : Lately → List ℕ
late_words l = flat_past l.places ++ (l.next ∷ [])

pub late-stands : (l : Lately) → length l.places ≡ most_kept → lately_in (late_words l) ≡ l
late-stands l h =
    let a : pasts most_kept (late_words l) ≡ l.places = ap (λ (n : ℕ). pasts n (late_words l)) (sym h)
    ∙ pasts-flat l.places (l.next ∷ []) in
    let k : past_words ≡ length (flat_past l.places) + 0 = omega (arith, length-flat_past l.places) in
    let b : next_in (late_words l) ≡ l.next = ap (λ (n : ℕ). get_or (late_words l) n 0) k
    ∙ get_d-behind (flat_past l.places) (l.next ∷ []) 0 in
    λ i. record { places = a i; next = b i }

-- ## One more has ended

-- the words of e from the word b on
abbrev pub written5 : List ℕ → ℕ → Past → List ℕ
written5 q b e = set (set (set (set (set q b e.conn) (b + 1) e.id) (b + 2) e.event) (b + 3) e.result) (b + 4) e.played

module _ (q : List ℕ) (b : ℕ) (e : Past) where
  pub length5 : length (written5 q b e) ≡ length q
  length5 = simp length-set

  -- a word that is none of them
  pub far5 : (j : ℕ) → ((k : ℕ) → k < past_width → j ≡ b + k → ⊥) → get_or (written5 q b e) j 0 ≡ get_or q j 0
  far5 j n =
      get_or-set_other (set (set (set (set q b e.conn) (b + 1) e.id) (b + 2) e.event) (b + 3) e.result) (b + 4) j e.played 0
      (λ z. n 4 (omega arith) z)
      ∙ get_or-set_other (set (set (set q b e.conn) (b + 1) e.id) (b + 2) e.event) (b + 3) j e.result 0 (λ z. n 3 (omega arith) z)
      ∙ get_or-set_other (set (set q b e.conn) (b + 1) e.id) (b + 2) j e.event 0 (λ z. n 2 (omega arith) z)
      ∙ get_or-set_other (set q b e.conn) (b + 1) j e.id 0 (λ z. n 1 (omega arith) z)
      ∙ get_or-set_other q b j e.conn 0 (λ z. n 0 (omega arith) (omega arith))

  -- and they are
  near5 : b + past_width ≤ length q → past_of (λ k. get_or (written5 q b e) (b + k) 0) ≡ e
  near5 h = λ i. record { conn = c i; id = d i; event = v i; result = r i; played = p i }
    where
      first : b + 0 ≡ b
      first = omega arith

      q1 : List ℕ
      q1 = set q b e.conn

      q2 : List ℕ
      q2 = set q1 (b + 1) e.id

      q3 : List ℕ
      q3 = set q2 (b + 2) e.event

      q4 : List ℕ
      q4 = set q3 (b + 3) e.result

      l1 : length q1 ≡ length q
      l1 = length-set q b e.conn

      l2 : length q2 ≡ length q
      l2 = length-set q1 (b + 1) e.id ∙ l1

      l3 : length q3 ≡ length q
      l3 = length-set q2 (b + 2) e.event ∙ l2

      l4 : length q4 ≡ length q
      l4 = length-set q3 (b + 3) e.result ∙ l3

      c : get_or (written5 q b e) (b + 0) 0 ≡ e.conn
      c =
          get_or-set_other q4 (b + 4) (b + 0) e.played 0 (λ z. omega (arith, z))
          ∙ get_or-set_other q3 (b + 3) (b + 0) e.result 0 (λ z. omega (arith, z))
          ∙ get_or-set_other q2 (b + 2) (b + 0) e.event 0 (λ z. omega (arith, z))
          ∙ get_or-set_other q1 (b + 1) (b + 0) e.id 0 (λ z. omega (arith, z))
          ∙ ap (λ (j : ℕ). get_or q1 j 0) first
          ∙ get_or-set_same q b e.conn 0 (omega arith)

      d : get_or (written5 q b e) (b + 1) 0 ≡ e.id
      d =
          get_or-set_other q4 (b + 4) (b + 1) e.played 0 (λ z. omega (arith, z))
          ∙ get_or-set_other q3 (b + 3) (b + 1) e.result 0 (λ z. omega (arith, z))
          ∙ get_or-set_other q2 (b + 2) (b + 1) e.event 0 (λ z. omega (arith, z))
          ∙ get_or-set_same q1 (b + 1) e.id 0 (omega (arith, l1))

      v : get_or (written5 q b e) (b + 2) 0 ≡ e.event
      v =
          get_or-set_other q4 (b + 4) (b + 2) e.played 0 (λ z. omega (arith, z))
          ∙ get_or-set_other q3 (b + 3) (b + 2) e.result 0 (λ z. omega (arith, z))
          ∙ get_or-set_same q2 (b + 2) e.event 0 (omega (arith, l2))

      r : get_or (written5 q b e) (b + 3) 0 ≡ e.result
      r = get_or-set_other q4 (b + 4) (b + 3) e.played 0 (λ z. omega (arith, z))
          ∙ get_or-set_same q3 (b + 3) e.result 0 (omega (arith, l3))

      p : get_or (written5 q b e) (b + 4) 0 ≡ e.played
      p = get_or-set_same q4 (b + 4) e.played 0 (omega (arith, l4))

-- the words of one that ended are all of it
five-same : (f g : ℕ → ℕ) → ((k : ℕ) → k < past_width → f k ≡ g k) → past_of f ≡ past_of g
five-same f g h = λ i. record {
  conn = h 0 (omega arith) i;
  id = h 1 (omega arith) i;
  event = h 2 (omega arith) i;
  result =
      h 3 (omega arith) i;
  played = h 4 (omega arith) i;
}

-- places have no word in common
same_place : (i j k n : ℕ) → k < past_width → n < past_width → i * past_width + k ≡ j * past_width + n → i ≡ j
same_place i j k n h l e = omega arith

-- the words after: its five, and the next place
module _ (q : List ℕ) (e : Past) (h : length q ≡ late_size) (k : next_in q < most_kept) where
  abbrev b : ℕ
  b = next_in q * past_width

  abbrev pub late_after : List ℕ
  late_after = set (written5 q (next_in q * past_width) e) past_words ((next_in q + 1) % most_kept)

  long : length (written5 q b e) ≡ late_size
  long = length5 q b e ∙ h

  -- the words of the place i
  at_place : (i : ℕ) → i < most_kept → past_at late_after i ≡ past_at (written5 q b e) i
  at_place i l = five-same (λ n. get_or late_after (i * past_width + n) 0) (λ n. get_or (written5 q b e) (i * past_width + n) 0)
      (λ n m. get_or-set_other (written5 q b e) past_words (i * past_width + n) ((next_in q + 1) % most_kept) 0 (λ z. omega (arith, z)))

  places-after : pasts most_kept late_after ≡ set (pasts most_kept q) (next_in q) e
  places-after =
      ext_get_or unused (pasts most_kept late_after) (set (pasts most_kept q) (next_in q) e)
      (length-pasts most_kept late_after ∙ sym (length-set (pasts most_kept q) (next_in q) e ∙ length-pasts most_kept q))
      (λ i l. let m : i < most_kept = omega (arith, l, length-pasts most_kept late_after) in
      pasts-at most_kept i late_after m ∙ at_place i m ∙ each i m (eqb i (next_in q)) refl)
    where
      each : (i : ℕ) → i < most_kept → (t : Bool) → eqb i (next_in q) ≡ t
          → past_at (written5 q b e) i ≡ get_or (set (pasts most_kept q) (next_in q) e) i unused
      each i l true x =
          let y : i ≡ next_in q = eqb-true i (next_in q) x in
          ap (past_at (written5 q b e)) y
          ∙ near5 q b e (omega arith)
          ∙ sym (ap (λ (j : ℕ). get_or (set (pasts most_kept q) (next_in q) e) j unused) y
          ∙ get_or-set_same (pasts most_kept q) (next_in q) e unused (omega (arith, length-pasts most_kept q)))
      each i l false x =
          let n = eqb-false i (next_in q) x in
          five-same (λ k. get_or (written5 q b e) (i * past_width + k) 0) (λ k. get_or q (i * past_width + k) 0)
          (λ k m. far5 q b e (i * past_width + k) (λ j o z. n (same_place i (next_in q) k j m o z)))
          ∙ sym (get_or-set_other (pasts most_kept q) (next_in q) i e unused n ∙ pasts-at most_kept i q l)

  pub late-after : lately_in late_after ≡ remembered e (lately_in q)
  unfolding remembered
  late-after = λ i. record {
    places = places-after i;
    next = get_or-set_same (written5 q b e) past_words ((next_in q + 1) % most_kept) 0
        (omega (arith, long)) i;
  }

-- all words are zeros
pub none-late : lately_in (zeros late_size) ≡ none_ended
unfolding pasts
none-late = refl
