-- What an entry is and how long, whatever follows it.
-- Rests on feed's laws: what is behind a header does not change what it says.
use mathlib.Core.Path.{◌≡◌, refl, sym, subst, ap, ap₂, ◌∙◌}
use mathlib.Core.Bool.{Bool, true, false, cond, ◌||◌}
use mathlib.Core.List.{List, [], ◌∷◌, ◌++◌, append-nil}
use Prim.Native.Nat.{ℕ, zero, suc, ◌≤◌, ◌<◌}
use native.Mathlib.Omega.{arith}
use lib.Dec.{eqb, ltb}
use lib.ListN.{length, take, drop, length-append, length-drop, take-append-drop}
use lib.Seq.{length-take-le, take-append_seam, drop-append_seam}
use borrow.Author.Tests.{lt-ltb, le-ltb, ltb-true, ltb-false, eqb-true, eqb-false, ne_eqb}
use Rattle.rules.specs.Bytes.{oversize}
use Rattle.rules.specs.Card.{tick_mark, mark_in, message_from, mark_end, tick_end, header_end}
use Rattle.rules.proofs.All.{All}
use Rattle.rules.proofs.Tests.{by, clash}
use Rattle.feed.proofs.Runs.{field-behind, size-behind}
use Rattle.recording.specs.declared.Entry.{Entry}
use Rattle.recording.specs.declared.Entry.TheVariants.{Made, Wrote, Cut, Another, End}
use Rattle.recording.specs.Recording.{marks_call, marks_record, marks_message, message_span, span, whole, entry_in}
use Rattle.recording.specs.Recording.{Item, made, wrote, cut, another, entries_by, entries_run, entries}
use Rattle.recording.specs.Recorded.{bytes_of}

-- ## What is known of an entry

-- it has n bytes, and all of them are there
pub record Within (l : List ℕ) (n : ℕ) : Type 0 where
  pub asked : n ≡ span l
  pub there : n ≤ length l
  pub some : 0 < length l

-- l begins with this entry
abbrev pub Begins : List ℕ → Entry → Type 0
Begins l (Made n) = Within l n × (marks_call (mark_in l) ≡ true)
Begins l (Wrote n) = Within l n × (marks_call (mark_in l) ≡ false)
Begins l Cut = (0 < length l) × (length l < span l)
Begins l Another = (0 < length l) × (marks_call (mark_in l) ≡ false) × (marks_record (mark_in l) ≡ false)
Begins l End = length l ≡ 0

-- what a whole entry of n bytes and a cut one have is had by what is said of either
begins-whole : (l : List ℕ) (e : ℕ → Entry) → 0 < length l → ((n : ℕ) → Within l n → Begins l (e n)) → Begins l (whole l e)
begins-whole l e h f =
    by (Begins l) (ltb (length l) (span l)) Cut (e (span l)) (λ g. (h, ltb-true (length l) (span l) g))
    (λ g. f (span l) (record { asked = refl; there = ltb-false (length l) (span l) g; some = h }))

begins-with : (l : List ℕ) → Begins l (entry_in l)
unfolding entry_in
begins-with l =
    by (Begins l) (eqb (length l) 0) End _ (λ e. eqb-true (length l) 0 e)
    (λ e. let h : 0 < length l = omega (arith, eqb-false (length l) 0 e) in
    by (Begins l) (marks_call (mark_in l)) _ _ (λ f. begins-whole l Made h (λ n w. (w, f)))
    (λ f. by (Begins l) (marks_record (mark_in l)) _ _ (λ k. begins-whole l Wrote h (λ n w. (w, f))) (λ k. (h, f, k))))

pub begins-as : (l : List ℕ) {e : Entry} → entry_in l ≡ e → Begins l e
begins-as l f = subst (Begins l) f (begins-with l)

-- a whole entry by itself
abbrev pub Whole : (ℕ → Entry) → List ℕ → Type 0
Whole e c = entry_in c ≡ e (length c)

-- and the other way round, from the mark and the length
module _ (l : List ℕ) (h : 0 < length l) where
  some_left : {x : Entry} → cond (eqb (length l) 0) End x ≡ x
  some_left {x} = rw (ne_eqb (length l) 0 (λ e. omega arith))

  pub is-another : marks_call (mark_in l) ≡ false → marks_record (mark_in l) ≡ false → entry_in l ≡ Another
  unfolding entry_in
  is-another f k = some_left ∙ rw (f, k)

  pub is_made : marks_call (mark_in l) ≡ true → entry_in l ≡ whole l Made
  unfolding entry_in
  is_made f = some_left ∙ rw f

  pub is-wrote : marks_call (mark_in l) ≡ false → marks_record (mark_in l) ≡ true → entry_in l ≡ whole l Wrote
  unfolding entry_in
  is-wrote f k = some_left ∙ rw (f, k)

-- only the mark and the length count, if all bytes are there
same-entry : (l k : List ℕ) → 0 < length l → 0 < length k → mark_in k ≡ mark_in l → span k ≡ span l → span l ≤ length l → span k ≤ length k
    → entry_in k ≡ entry_in l
unfolding entry_in
same-entry l k h g m s a b =
    some_left k g
    ∙ rw (m, le-ltb (length k) (span k) b, le-ltb (length l) (span l) a, s) (sym (some_left l h))

-- a known mark, with fewer bytes than it asks for
pub cut-entry : (l k : List ℕ) → 0 < length k → mark_in k ≡ mark_in l → length k < span k → span l ≤ length l → 0 < length l
    → (entry_in l ≡ Another → ⊥) → entry_in k ≡ Cut
unfolding entry_in
cut-entry l k g m s a h n = some_left k g ∙ rw (m, lt-ltb (length k) (span k) s)
    (go (marks_call (mark_in l)) (marks_record (mark_in l)) refl refl)
  where
    go : (x y : Bool) → marks_call (mark_in l) ≡ x → marks_record (mark_in l) ≡ y → cond x Cut (cond y Cut Another) ≡ Cut
    go true y e f = refl
    go false true e f = refl
    go false false e f = absurd (n (is-another l h e f))

-- ## Its length

pub span-two : (l : List ℕ) → 2 ≤ span l
unfolding span
span-two l =
    by (λ n. 2 ≤ n) (marks_message (mark_in l)) _ _
    (λ e. by (λ n. 2 ≤ n) (ltb (length l) header_end || oversize (message_from l)) _ _ (λ f. omega arith) (λ f. omega arith))
    (λ e. by (λ n. 2 ≤ n) (eqb (mark_in l) tick_mark) _ _ (λ f. omega arith) (λ f. omega arith))

-- a message has its header
span-message : (l : List ℕ) → marks_message (mark_in l) ≡ true → header_end ≤ span l
unfolding span
span-message l e =
    rw e (by (λ n. header_end ≤ n) (ltb (length l) header_end || oversize (message_from l)) _ _ (λ f. omega arith) (λ f. omega arith))

-- a header that is not all there
span-short : (c : List ℕ) → marks_message (mark_in c) ≡ true → length c < header_end → span c ≡ header_end
unfolding span
span-short c e g = rw (e, lt-ltb (length c) header_end g)

-- what is behind the mark and the header does not change it
module _ (c m : List ℕ) (h : 0 < length c) where
  mark-behind : mark_in (c ++ m) ≡ mark_in c
  mark-behind = field-behind c m 0 1 (omega arith)

  message-behind : header_end ≤ length c → message_span (c ++ m) ≡ message_span c
  message-behind g =
      rw (
        le-ltb (length (c ++ m)) header_end (simp length-append (omega arith)),
        le-ltb (length c) header_end g,
        size-behind c m g,
      )

  span-behind : (marks_message (mark_in c) ≡ true → header_end ≤ length c) → span (c ++ m) ≡ span c
  unfolding span
  span-behind g =
      ap (λ x. cond (marks_message x) (message_span (c ++ m)) (cond (eqb x tick_mark) tick_end mark_end)) mark-behind
      ∙ go (marks_message (mark_in c)) refl
    where
      go : (b : Bool) → marks_message (mark_in c) ≡ b
          → let other = cond (eqb (mark_in c) tick_mark) tick_end mark_end in
          cond b (message_span (c ++ m)) other ≡ cond b (message_span c) other
      go true e = message-behind (g e)
      go false e = refl

  -- c is a whole entry
  pub entry-behind : span c ≤ length c → entry_in (c ++ m) ≡ entry_in c
  entry-behind g =
      let s = span-behind (λ e. omega (arith, span-message c e)) in
      same-entry c (c ++ m) h (simp length-append (omega arith)) mark-behind s g (simp length-append (omega arith))

-- the first n bytes of l
module _ (l : List ℕ) (n : ℕ) (p : 0 < n) (q : n ≤ length l) where
  long : length (take n l) ≡ n
  long = length-take-le n l q

  mark-front : mark_in (take n l) ≡ mark_in l
  mark-front = sym (mark-behind (take n l) (drop n l) (omega (arith, long))) ∙ ap mark_in (take-append-drop n l)

  span-front : (marks_message (mark_in l) ≡ true → header_end ≤ n) → span (take n l) ≡ span l
  span-front g =
      sym (span-behind (take n l) (drop n l) (omega (arith, long))
      (λ e. omega (arith, long, g (ap marks_message (sym mark-front) ∙ e))))
      ∙ ap span (take-append-drop n l)

  -- they are a whole entry
  pub entry-front : n ≡ span l → entry_in (take n l) ≡ entry_in l
  entry-front e =
      let s = span-front (λ f. omega (arith, span-message l f)) in
      same-entry l (take n l) (omega arith) (omega (arith, long)) mark-front s (omega arith) (omega (arith, long))

  -- they are fewer than a whole entry has
  short-front : n < span l → n < span (take n l)
  short-front g = go (marks_message (mark_in l)) (ltb n header_end) refl refl
    where
      go : (a b : Bool) → marks_message (mark_in l) ≡ a → ltb n header_end ≡ b → n < span (take n l)
      go false b e f = omega (arith, span-front (λ d. absurd (clash _ d e)))
      go true false e f = omega (arith, span-front (λ d. ltb-false n header_end f))
      go true true e f =
          let h = ltb-true n header_end f in
          omega (arith, span-short (take n l) (ap marks_message mark-front ∙ e) (omega (arith, long)))

  pub entry-cut : n < span l → span l ≤ length l → (entry_in l ≡ Another → ⊥) → entry_in (take n l) ≡ Cut
  entry-cut g w a =
      cut-entry l (take n l) (omega (arith, long)) mark-front (omega (arith, long, short-front g)) w (omega arith) a

-- ## Entry by entry

-- an entry takes two bytes or more, or is the last
abbrev Takes : List ℕ → Entry → Type 0
Takes l (Made n) = (2 ≤ n) × (n ≤ length l)
Takes l (Wrote n) = (2 ≤ n) × (n ≤ length l)
Takes l Cut = Unit {0}
Takes l Another = Unit {0}
Takes l End = Unit {0}

takes : (l : List ℕ) → Takes l (entry_in l)
takes l = go (entry_in l) (begins-with l)
  where
    go : (e : Entry) → Begins l e → Takes l e
    go (Made n) b = (omega (arith, span-two l, b.0.asked), b.0.there)
    go (Wrote n) b = (omega (arith, span-two l, b.0.asked), b.0.there)
    go Cut b = tt
    go Another b = tt
    go End b = tt

-- of an empty rest: nothing
entries_none : (n : ℕ) → entries_run n [] ≡ []
unfolding entries_run entries_by entry_in
entries_none zero = refl
entries_none (suc n) = refl

-- enough entries are allowed: how many does not matter
fuel : (n m : ℕ) (l : List ℕ) → length l ≤ n → length l ≤ m → entries_run n l ≡ entries_run m l
unfolding entries_run entries_by
fuel zero m [] h i = sym (entries_none m)
fuel zero m (b ∷ l) h i = absurd (omega arith)
fuel (suc n) zero [] h i = entries_none (suc n)
fuel (suc n) zero (b ∷ l) h i = absurd (omega arith)
fuel (suc n) (suc m) l h i = go (entry_in l) (takes l) (λ k f g. fuel n m (drop k l) (simp length-drop (omega arith))
    (simp length-drop (omega arith)))
  where
    go : (e : Entry) → Takes l e → ((k : ℕ) → 2 ≤ k → k ≤ length l → entries_run n (drop k l) ≡ entries_run m (drop k l))
        → entries_by (entries_run n) e l ≡ entries_by (entries_run m) e l
    go (Made k) f g = ap (λ y. made (take k l) ∷ y) (g k f.0 f.1)
    go (Wrote k) f g = ap (λ y. wrote (take k l) ∷ y) (g k f.0 f.1)
    go Cut f g = refl
    go Another f g = refl
    go End f g = refl

-- one entry, and the rest
pub entries-step : (l : List ℕ) → entries l ≡ entries_by entries (entry_in l) l
unfolding entries entries_run entries_by
entries-step l = fuel (length l) (suc (length l)) l (omega arith) (omega arith) ∙ go (entry_in l) (takes l)
  where
    rest : (k : ℕ) → 2 ≤ k → k ≤ length l → entries_run (length l) (drop k l) ≡ entries (drop k l)
    rest k f g = fuel (length l) (length (drop k l)) (drop k l) (simp length-drop (omega arith)) (omega arith)

    go : (e : Entry) → Takes l e → entries_by (entries_run (length l)) e l ≡ entries_by entries e l
    go (Made k) f = ap (λ y. made (take k l) ∷ y) (rest k f.0 f.1)
    go (Wrote k) f = ap (λ y. wrote (take k l) ∷ y) (rest k f.0 f.1)
    go Cut f = refl
    go Another f = refl
    go End f = refl

-- a whole entry in front of any bytes
module _ (c m : List ℕ) where
  front : Within c (length c) → entry_in (c ++ m) ≡ entry_in c
  front w = entry-behind c m w.some (omega (arith, w.asked))

  pub entries-made : Whole Made c → entries (c ++ m) ≡ made c ∷ entries m
  unfolding entries_by
  entries-made e =
      let w : Begins c (Made (length c)) = begins-as c e in
      entries-step (c ++ m) ∙ ap (λ x. entries_by entries x (c ++ m)) (front w.0 ∙ e)
      ∙ ap₂ (λ x y. made x ∷ entries y) (take-append_seam c m) (drop-append_seam c m)

  pub entries-wrote : Whole Wrote c → entries (c ++ m) ≡ wrote c ∷ entries m
  unfolding entries_by
  entries-wrote e =
      let w : Begins c (Wrote (length c)) = begins-as c e in
      entries-step (c ++ m) ∙ ap (λ x. entries_by entries x (c ++ m)) (front w.0 ∙ e)
      ∙ ap₂ (λ x y. wrote x ∷ entries y) (take-append_seam c m) (drop-append_seam c m)

-- the bytes of an entry that l begins with are a whole entry
module _ (l : List ℕ) (n : ℕ) where
  front-whole : Within l n → entry_in (take n l) ≡ entry_in l
  front-whole w = entry-front l n (omega (arith, span-two l, w.asked)) w.there w.asked

  pub made-whole : entry_in l ≡ Made n → Whole Made (take n l)
  made-whole e =
      let b : Begins l (Made n) = begins-as l e in
      front-whole b.0 ∙ e ∙ ap Made (sym (length-take-le n l b.0.there))

  pub wrote-whole : entry_in l ≡ Wrote n → Whole Wrote (take n l)
  wrote-whole e =
      let b : Begins l (Wrote n) = begins-as l e in
      front-whole b.0 ∙ e ∙ ap Wrote (sym (length-take-le n l b.0.there))

-- a part of a whole entry is cut
pub entries-cut : (c : List ℕ) (m : ℕ) → Within c (length c) → (entry_in c ≡ Another → ⊥) → 0 < m → m < length c
    → entries (take m c) ≡ cut (take m c) ∷ []
unfolding entries_by
entries-cut c m w a h g =
    entries-step (take m c)
    ∙ ap (λ x. entries_by entries x (take m c)) (entry-cut c m h (omega arith) (omega (arith, w.asked)) (omega (arith, w.asked)) a)

-- ## All of them

-- each with its bytes
abbrev pub Valid : Item → Type 0
Valid (made c) = Whole Made c
Valid (wrote w) = Whole Wrote w
Valid (cut l) = Unit {0}
Valid (another l) = Unit {0}

valid-run : (n : ℕ) (l : List ℕ) → All Valid (entries_run n l)
unfolding entries_run entries_by
valid-run zero l = tt
valid-run (suc n) l = go (entry_in l) refl (valid-run n)
  where
    go : (e : Entry) → entry_in l ≡ e → ((m : List ℕ) → All Valid (entries_run n m)) → All Valid (entries_by (entries_run n) e l)
    go (Made k) f g = (made-whole l k f, g (drop k l))
    go (Wrote k) f g = (wrote-whole l k f, g (drop k l))
    go Cut f g = (tt, tt)
    go Another f g = (tt, tt)
    go End f g = tt

pub valid : (l : List ℕ) → All Valid (entries l)
unfolding entries
valid l = valid-run (length l) l

none_left : (l : List ℕ) → length l ≡ 0 → [] ≡ l
none_left [] h = refl
none_left (b ∷ l) h = absurd (omega arith)

bytes_run : (n : ℕ) (l : List ℕ) → length l ≤ n → bytes_of (entries_run n l) ≡ l
unfolding entries_run entries_by bytes_of
bytes_run zero l h = none_left l (omega arith)
bytes_run (suc n) l h = go (entry_in l) (begins-with l) (takes l) (λ k f. bytes_run n (drop k l) (simp length-drop (omega arith)))
  where
    go : (e : Entry) → Begins l e → Takes l e → ((k : ℕ) → 2 ≤ k → bytes_of (entries_run n (drop k l)) ≡ drop k l)
        → bytes_of (entries_by (entries_run n) e l) ≡ l
    go (Made k) b t f = ap (λ m. take k l ++ m) (f k t.0) ∙ take-append-drop k l
    go (Wrote k) b t f = ap (λ m. take k l ++ m) (f k t.0) ∙ take-append-drop k l
    go Cut b t f = append-nil l
    go Another b t f = append-nil l
    go End b t f = none_left l b

-- no byte is lost
pub bytes-all : (l : List ℕ) → bytes_of (entries l) ≡ l
unfolding entries
bytes-all l = bytes_run (length l) l (omega arith)
