-- Laws of the places of lent words: a place is read and written as an element of a list.
-- They speak of a session's words as a list of `width`; only `session_of` and `words_of` know which word is which field.
use mathlib.Core.Path.{◌≡◌, refl, sym, ap, ◌∙◌}
use mathlib.Core.List.{List, [], ◌∷◌, ◌++◌, append_assoc}
use Prim.Native.Nat.{ℕ, zero, suc, ◌+◌, ◌-◌, ◌*◌, ◌/◌, ◌%◌, ◌≤◌, ◌<◌}
use native.Mathlib.Omega.{arith}
use native.Mathlib.Nat.{le_of_suc-le-suc}
use lib.ListN.{length, take, drop, set, get_or, replicate, length-set, length-drop, take-append-drop, drop_of_length-le}
use lib.Seq.{sets, sets-eq, take-add, drop-cons, drop-drop, get_or-drop, set-get_or, drop-set-lt}
use Rattle.rules.specs.declared.Session.{Session}
use Rattle.rules.specs.State.{empty}
use Rattle.rules.specs.Instants.{playing}
use Rattle.places.specs.Places.{capacity, width, session_of, asked_word, words_of, row, Row, rows, places, spare, zeros}

pub length-rows : (n : ℕ) (q : List ℕ) → length (rows n q) ≡ n
unfolding rows
length-rows zero q = refl
length-rows (suc n) q = ap suc (length-rows n (drop width q))

pub length-places : (q : List ℕ) → length (places q) ≡ capacity q
length-places q = length-rows (capacity q) q

-- ## Words

-- n of them, from the word k on
unfoldable words_from : (k n : ℕ) → (ℕ → ℕ) → List ℕ
words_from k zero f = []
words_from k (suc n) f = f k ∷ words_from (suc k) n f

from_front : (k n : ℕ) (q : List ℕ) → k + n ≤ length q → words_from k n (λ j. get_or q j 0) ≡ take n (drop k q)
unfolding words_from
from_front k zero q h = refl
from_front k (suc n) q h = ap (λ r. get_or q k 0 ∷ r) (from_front (suc k) n q (omega arith))
    ∙ ap (take (suc n)) (sym (drop-cons q k 0 (omega arith)))

-- the words of a session are those that it was made of
words-of : (f : ℕ → ℕ) → words_of (session_of f) ≡ words_from 0 width f
unfolding words_from
words-of f =
    let e : f 6 % 2 + 2 * (f 6 / 2 % 128) + 256 * (f 6 / 256) ≡ f 6 = omega arith in
    ap (λ (w : ℕ). f 0 ∷ f 1 ∷ f 2 ∷ f 3 ∷ f 4 ∷ f 5 ∷ w ∷ f 7 ∷ []) e

-- what shares a word is told apart
abbrev pub Apart : Session → Type 0
Apart x = (x.overrides ≤ 1) × (x.mux < 128)

lower : (a b : ℕ) → a < 128 → (a + 128 * b) % 128 ≡ a
lower a b h = omega arith

-- and they give it back
pub words_back : (x : Session) (l : List ℕ) → Apart x → row (words_of x ++ l) ≡ x
words_back x l h =
    let o : asked_word x % 2 ≡ x.overrides = omega (arith, h.0) in
    let d : asked_word x / 2 ≡ x.mux + 128 * x.event = omega (arith, h.0) in
    let m : asked_word x / 2 % 128 ≡ x.mux = ap (λ (k : ℕ). k % 128) d ∙ lower x.mux x.event h.1 in
    let e : asked_word x / 256 ≡ x.event = omega (arith, h.0, h.1) in
    λ i. record {
      conn = x.conn;
      id = x.id;
      prior = x.prior;
      start = x.start;
      end = x.end;
      access = x.access;
      overrides = o i;
      mux = m i;
      event = e i;
      played = x.played;
    }

-- the first words are those of their session
row_words : (q : List ℕ) → width ≤ length q → words_of (row q) ≡ take width q
row_words q h = words-of (λ k. get_or q k 0) ∙ from_front 0 width q h

row-split : (q : List ℕ) → width ≤ length q → words_of (row q) ++ drop width q ≡ q
row-split q h = ap (λ r. r ++ drop width q) (row_words q h) ∙ take-append-drop width q

-- the words vs, from the word b + k on
abbrev put : (b k : ℕ) → List ℕ → List ℕ → List ℕ
put b k [] q = q
put b k (v ∷ vs) q = put b (suc k) vs (set q (b + k) v)

put-length : (b k : ℕ) (vs q : List ℕ) → length (put b k vs q) ≡ length q
put-length b k [] q = refl
put-length b k (v ∷ vs) q = put-length b (suc k) vs (set q (b + k) v) ∙ length-set q (b + k) v

put-sets : (b k : ℕ) (vs q : List ℕ) → put b k vs q ≡ sets q (b + k) vs
put-sets b k [] q = refl
put-sets b k (v ∷ vs) q =
    let e : b + suc k ≡ suc (b + k) = omega arith in
    put-sets b (suc k) vs (set q (b + k) v) ∙ ap (λ (i : ℕ). sets (set q (b + k) v) i vs) e

put-behind : (m b k : ℕ) (vs q : List ℕ) → b + (k + length vs) ≤ m → drop m (put b k vs q) ≡ drop m q
put-behind m b k [] q h = refl
put-behind m b k (v ∷ vs) q h = put-behind m b (suc k) vs (set q (b + k) v) (omega arith) ∙ drop-set-lt m q (b + k) v (omega arith)

-- what stood there is put there again, and ws behind it
put-again : (b k n : ℕ) (ws q : List ℕ) → put b k (words_from k n (λ j. get_or q (b + j) 0) ++ ws) q ≡ put b (k + n) ws q
unfolding words_from
put-again b k zero ws q = let e : k ≡ k + 0 = omega arith in ap (λ (i : ℕ). put b i ws q) e
put-again b k (suc n) ws q =
    let e : suc k + n ≡ k + suc n = omega arith in
    ap (put b (suc k) (words_from (suc k) n (λ j. get_or q (b + j) 0) ++ ws)) (set-get_or q (b + k) 0)
    ∙ put-again b (suc k) n ws q
    ∙ ap (λ (i : ℕ). put b i ws q) e

-- ## A place

-- what is read at the words from b on
abbrev pub loaded : List ℕ → ℕ → Session
loaded q b = session_of (λ k. get_or q (b + k) 0)

-- what is left when x is written there
abbrev pub stored : List ℕ → ℕ → Session → List ℕ
stored q b x = put b 0 (words_of x) q

-- the word of the time on air, the last
abbrev pub played_word : ℕ
played_word = width - 1

rows-loaded : (n i : ℕ) (q : List ℕ) (d : Session) → i < n → row (drop (i * width) q) ≡ get_or (rows n q) i d
unfolding rows
rows-loaded zero i q d h = absurd (omega arith)
rows-loaded (suc n) zero q d h = refl
rows-loaded (suc n) (suc i) q d h =
    let e : suc i * width ≡ width + i * width = omega arith in
    ap (λ (k : ℕ). row (drop k q)) e ∙ ap row (sym (drop-drop (i * width) width q)) ∙ rows-loaded n i (drop width q) d (le_of_suc-le-suc h)

-- x in place of the place i
abbrev with : ℕ → List ℕ → Session → List ℕ
with i q x = take (i * width) q ++ (words_of x ++ drop (i * width + width) q)

-- behind a first place
with-next : (i : ℕ) (q : List ℕ) (x : Session) → width ≤ length q → with (suc i) q x ≡ words_of (row q) ++ with i (drop width q) x
with-next i q x h =
    let r = words_of x ++ drop (suc i * width + width) q in
    let e : suc i * width ≡ width + i * width = omega arith in
    let f : width + (i * width + width) ≡ suc i * width + width = omega arith in
    ap (λ (k : ℕ). take k q ++ r) e
    ∙ ap (λ t. t ++ r) (take-add width (i * width) q)
    ∙ ap (λ t. (t ++ take (i * width) (drop width q)) ++ r) (sym (row_words q h))
    ∙ ap (λ t. words_of (row q) ++ (take (i * width) (drop width q) ++ (words_of x ++ t)))
    (ap (λ (k : ℕ). drop k q) (sym f) ∙ sym (drop-drop (i * width + width) width q))

rows-with : (n i : ℕ) (q : List ℕ) (x : Session) → Apart x → i < n → n * width ≤ length q → rows n (with i q x) ≡ set (rows n q) i x
unfolding rows
rows-with zero i q x o h m = absurd (omega arith)
rows-with (suc n) zero q x o h m = ap (λ s. s ∷ rows n (drop width q)) (words_back x (drop width q) o)
rows-with (suc n) (suc i) q x o h m =
    ap (rows (suc n)) (with-next i q x (omega arith))
    ∙ ap (λ s. s ∷ rows n (with i (drop width q) x)) (words_back (row q) (with i (drop width q) x) (omega arith, omega arith))
    ∙ ap (λ r. row q ∷ r) (rows-with n i (drop width q) x o (le_of_suc-le-suc h) (simp length-drop (omega arith)))

whole : (b : ℕ) → b % width ≡ 0 → b ≡ b / width * width
whole b h = omega arith

-- the words from the first of a place on
pub load_is : (q : List ℕ) (b : ℕ) (d : Session) → Row b q → loaded q b ≡ get_or (places q) (b / width) d
load_is q b d r =
    let at : loaded q b ≡ row (drop b q) = λ i. session_of (λ k. sym (get_or-drop b q k 0) i) in
    at ∙ ap (λ (i : ℕ). row (drop i q)) (whole b r.0) ∙ rows-loaded (capacity q) (b / width) q d r.1

-- and so is that of its words
pub place_of : (q : List ℕ) (b : ℕ) (s : Session) → Row b q → loaded q b ≡ s → get_or (places q) (b / width) empty ≡ s
place_of q b s r e = sym (load_is q b empty r) ∙ e

stored-with : (q : List ℕ) (b : ℕ) (x : Session) → Row b q → stored q b x ≡ with (b / width) q x
stored-with q b x r =
    let e : b + 0 ≡ b / width * width = omega (arith, r.0) in
    put-sets b 0 (words_of x) q
    ∙ ap (λ (i : ℕ). sets q i (words_of x)) e
    ∙ sets-eq (words_of x) q (b / width * width) (omega (arith, r.0, r.1))
    ∙ append_assoc (take (b / width * width) q) (words_of x) (drop (b / width * width + width) q)

pub store_is : (q : List ℕ) (b : ℕ) (x : Session) → Apart x → Row b q → places (stored q b x) ≡ set (places q) (b / width) x
store_is q b x o r =
    let n : length (stored q b x) ≡ length q = put-length b 0 (words_of x) q in
    ap (λ (k : ℕ). rows (k / width) (stored q b x)) n
    ∙ ap (rows (capacity q)) (stored-with q b x r)
    ∙ rows-with (capacity q) (b / width) q x o r.1 (omega arith)

pub store-spare : (q : List ℕ) (b : ℕ) (x : Session) → Row b q → spare (stored q b x) ≡ spare q
store-spare q b x r =
    let n : length (stored q b x) ≡ length q = put-length b 0 (words_of x) q in
    ap (λ (k : ℕ). drop (k / width * width) (stored q b x)) n ∙ put-behind (capacity q * width) b 0 (words_of x) q
    (omega (arith, r.0, r.1))

-- where only the playing goes on, the other words stay
pub store-played : (q : List ℕ) (b d : ℕ) → stored q b (playing d (loaded q b)) ≡ set q (b + played_word) (get_or q (b + played_word) 0 + d)
unfolding words_from
store-played q b d =
    let more : List ℕ = (get_or q (b + played_word) 0 + d) ∷ [] in
    ap (λ (l : List ℕ). put b 0 (take played_word l ++ more) q) (words-of (λ k. get_or q (b + k) 0)) ∙ put-again b 0 played_word more q

-- the words are determined by what their places hold and the spare ones
rows_same : (n : ℕ) (p q : List ℕ) → n * width ≤ length p → n * width ≤ length q → rows n p ≡ rows n q
    → drop (n * width) p ≡ drop (n * width) q → p ≡ q
unfolding rows
rows_same zero p q h k e d = d
rows_same (suc n) p q h k e d =
    let f : width + n * width ≡ suc n * width = omega arith in
    let g : (r : List ℕ) → drop (n * width) (drop width r) ≡ drop (suc n * width) r =
    λ r. drop-drop (n * width) width r ∙ ap (λ (j : ℕ). drop j r) f in
    let rest : drop width p ≡ drop width q =
    rows_same n (drop width p) (drop width q) (simp length-drop (omega arith)) (simp length-drop (omega arith)) (ap (drop 1) e)
    (g p ∙ d ∙ sym (g q)) in
    sym (row-split p (omega arith))
    ∙ ap (λ (s : Session). words_of s ++ drop width p) (ap (λ l. get_or l 0 empty) e)
    ∙ ap (λ r. words_of (row q) ++ r) rest
    ∙ row-split q (omega arith)

pub places_same : (p q : List ℕ) → length p ≡ length q → places p ≡ places q → spare p ≡ spare q → p ≡ q
places_same p q h e d = rows_same (capacity p) p q (omega arith) (omega arith) (e ∙ rw h refl) (d ∙ rw h refl)

-- k whole places leave none to spare
pub spare-none : (k : ℕ) (q : List ℕ) → length q ≡ k * width → spare q ≡ []
spare-none k q e = drop_of_length-le q {i = capacity q * width} (omega arith)

-- ## The places of zeros are empty

zero-at : (m k : ℕ) → get_or (zeros m) k 0 ≡ 0
zero-at zero k = refl
zero-at (suc m) zero = refl
zero-at (suc m) (suc k) = zero-at m k

rows-zero : (n : ℕ) (q : List ℕ) → ((k : ℕ) → get_or q k 0 ≡ 0) → rows n q ≡ replicate n empty
unfolding rows empty
rows-zero zero q z = refl
rows-zero (suc n) q z =
    let e : row q ≡ empty = λ i. session_of (λ k. z k i) in
    λ i. e i ∷ rows-zero n (drop width q) (λ k. get_or-drop width q k 0 ∙ z (width + k)) i

pub places-zero : (m : ℕ) → places (zeros m) ≡ replicate (capacity (zeros m)) empty
places-zero m = rows-zero (capacity (zeros m)) (zeros m) (zero-at m)
