-- Entries that are not whole yet: how long they are, and that one byte more makes them whole at their end.
-- Rests on recording's laws of entries.
use Rattle.std.proofs.Common.{◌≡◌, ℕ, ◌<◌, ◌≤◌, Bool, true, false, ◌||◌, eqb, ltb, List, [], ◌∷◌, ◌++◌, length, take, drop, sym, refl}
use Rattle.std.proofs.Common.{ap, ◌∙◌, subst, arith, length-append, take-append-drop, length-take-le, ltb-false, ltb-true}
use lib.Seq.{take-append-le}
use Rattle.rules.specs.Bytes.{largest_size, message_size, oversize}
use Rattle.rules.specs.Card.{tick_mark, mark_in, message_from, header_end, message_end}
use Rattle.rules.proofs.Tests.{by, clash, or-none}
use Rattle.feed.proofs.Runs.{field-behind}
use Rattle.recording.specs.declared.Entry.{Entry}
use Rattle.recording.specs.declared.Entry.TheVariants.{Made, Wrote, Cut, Another, End}
use Rattle.recording.specs.Recording.{marks_call, marks_record, marks_message, span, entry_in}
use Rattle.recording.proofs.Entries.{Within, Begins, begins-as, Whole, is-another, entry-behind, made-whole, wrote-whole}
use Rattle.follow.specs.Following.{is_open, span_of}

-- ## How long an entry is

pub span-most : (l : List ℕ) → span l ≤ message_end largest_size
unfolding span
span-most l =
    by (λ n. n ≤ message_end largest_size) (marks_message (mark_in l)) _ _
    (λ e. by (λ n. n ≤ message_end largest_size) (ltb (length l) header_end || oversize (message_from l)) _ _ (λ f. omega arith)
    (λ f. omega (arith, ltb-false largest_size (message_size (message_from l)) (or-none (ltb (length l) header_end) _ f).1)))
    (λ e. by (λ n. n ≤ message_end largest_size) (eqb (mark_in l) tick_mark) _ _ (λ f. omega arith) (λ f. omega arith))

module _ (l : List ℕ) (o : is_open (entry_in l) ≡ true) where
  pub open-short : length l < message_end largest_size
  unfolding is_open
  open-short = go (entry_in l) refl o
    where
      go : (e : Entry) → entry_in l ≡ e → is_open e ≡ true → length l < message_end largest_size
      go (Made n) e f = absurd (clash false f refl)
      go (Wrote n) e f = absurd (clash false f refl)
      go Cut e f = let b : Begins l Cut = begins-as l e in omega (arith, b.1, span-most l)
      go Another e f = absurd (clash false f refl)
      go End e f = let b : Begins l End = begins-as l e in omega (arith, b)

  pub open-cut : 0 < length l → entry_in l ≡ Cut
  unfolding is_open
  open-cut h = go (entry_in l) refl o
    where
      go : (e : Entry) → entry_in l ≡ e → is_open e ≡ true → e ≡ Cut
      go (Made n) e f = absurd (clash false f refl)
      go (Wrote n) e f = absurd (clash false f refl)
      go Cut e f = refl
      go Another e f = absurd (clash false f refl)
      go End e f = let b : Begins l End = begins-as l e in absurd (omega (arith, b))

-- ## An unknown mark, whatever follows

another-by : (l k : List ℕ) → 0 < length l → mark_in l ≡ mark_in k → entry_in k ≡ Another → entry_in l ≡ Another
another-by l k h m e =
    let b : Begins k Another = begins-as k e in is-another l h (ap marks_call m ∙ b.1) (ap marks_record m ∙ b.2)

pub another-mark : (l more : List ℕ) → entry_in l ≡ Another → entry_in (take 1 l ++ more) ≡ Another
another-mark l more e =
    let b : Begins l Another = begins-as l e in
    let one : length (take 1 l) ≡ 1 = length-take-le 1 l (omega (arith, b.0)) in
    let m : mark_in (take 1 l ++ more) ≡ mark_in l =
    field-behind (take 1 l) more 0 1 (omega arith)
    ∙ sym (field-behind (take 1 l) (drop 1 l) 0 1 (omega arith)) ∙ ap mark_in (take-append-drop 1 l) in
    another-by (take 1 l ++ more) l (simp length-append (omega arith)) m e

pub another-there : (l : List ℕ) → entry_in l ≡ Another → 1 ≤ length l
another-there l e = let b : Begins l Another = begins-as l e in b.0

-- ## One byte more

module _ (k : List ℕ) (o : is_open (entry_in k) ≡ true) (x n : ℕ) where
  -- n bytes of it would be whole in k already
  not-before : (e : ℕ → Entry) → ((i : ℕ) → is_open (e i) ≡ false) → Within (k ++ (x ∷ [])) n → Whole e (take n (k ++ (x ∷ [])))
      → ((c : List ℕ) → Whole e c → Within c (length c)) → n ≡ length (k ++ (x ∷ []))
  not-before e closed w whole within = go (ltb (length k) n) refl
    where
      go : (t : Bool) → ltb (length k) n ≡ t → n ≡ length (k ++ (x ∷ []))
      go true f = omega (arith, ltb-true (length k) n f, w.there, length-append k (x ∷ []))
      go false f =
          let h = ltb-false (length k) n f in
          let z : Whole e (take n k) = subst (Whole e) (take-append-le n k (x ∷ []) h) whole in
          let v = within (take n k) z in
          let s : entry_in k ≡ e (length (take n k)) =
          ap entry_in (sym (take-append-drop n k)) ∙ entry-behind (take n k) (drop n k) v.some (omega (arith, v.asked)) ∙ z in
          absurd (clash _ o (ap is_open s ∙ closed (length (take n k))))

  made-exact : entry_in (k ++ (x ∷ [])) ≡ Made n → n ≡ length (k ++ (x ∷ []))
  unfolding is_open
  made-exact e =
      let b : Begins (k ++ (x ∷ [])) (Made n) = begins-as (k ++ (x ∷ [])) e in
      not-before Made (λ i. refl) b.0 (made-whole (k ++ (x ∷ [])) n e)
      (λ c z. let d : Begins c (Made (length c)) = begins-as c z in d.0)

  wrote-exact : entry_in (k ++ (x ∷ [])) ≡ Wrote n → n ≡ length (k ++ (x ∷ []))
  unfolding is_open
  wrote-exact e =
      let b : Begins (k ++ (x ∷ [])) (Wrote n) = begins-as (k ++ (x ∷ [])) e in
      not-before Wrote (λ i. refl) b.0 (wrote-whole (k ++ (x ∷ [])) n e)
      (λ c z. let d : Begins c (Wrote (length c)) = begins-as c z in d.0)

-- a mark that is unknown was so at its first byte
another-exact : (k : List ℕ) → is_open (entry_in k) ≡ true → (x : ℕ) → entry_in (k ++ (x ∷ [])) ≡ Another → length k ≡ 0
unfolding is_open
another-exact k o x e = go (ltb 0 (length k)) refl
  where
    go : (t : Bool) → ltb 0 (length k) ≡ t → length k ≡ 0
    go false f = omega (arith, ltb-false 0 (length k) f)
    go true f =
        let h = ltb-true 0 (length k) f in
        let z = another-by k (k ++ (x ∷ [])) h (sym (field-behind k (x ∷ []) 0 1 (omega arith))) e in
        absurd (clash _ o (ap is_open z))

pub exact : (k : List ℕ) → is_open (entry_in k) ≡ true → (x : ℕ) → (span_of (entry_in (k ++ (x ∷ []))) ≡ 0 → ⊥)
    → span_of (entry_in (k ++ (x ∷ []))) ≡ length (k ++ (x ∷ []))
unfolding span_of
exact k o x s = go (entry_in (k ++ (x ∷ []))) refl s
  where
    go : (e : Entry) → entry_in (k ++ (x ∷ [])) ≡ e → (span_of e ≡ 0 → ⊥) → span_of e ≡ length (k ++ (x ∷ []))
    go (Made n) e h = made-exact k o x n e
    go (Wrote n) e h = wrote-exact k o x n e
    go Cut e h = absurd (h refl)
    go Another e h = omega (arith, another-exact k o x e, length-append k (x ∷ []))
    go End e h = absurd (h refl)
