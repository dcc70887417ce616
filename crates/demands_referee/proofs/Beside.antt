-- How what the referee finds stands to 02, CR 14's `judged`, `first_unknown` and `checked`.
-- Rests on the definitions and on recording's laws.
use mathlib.Core.Path.{◌≡◌, refl, sym, subst, ap, ap₂, ◌∙◌}
use mathlib.Core.Bool.{Bool, true, false, cond}
use mathlib.Core.Logic.{◌⊎◌, inl, inr}
use mathlib.Core.List.{List, [], ◌∷◌, ◌++◌}
use Prim.Native.Nat.{ℕ, zero, suc, ◌+◌, ◌^◌, ◌≤◌, ◌<◌}
use native.Mathlib.Nat.{mod-mod, suc-mod, mod-add-mod, mod-eq_of_lt}
use native.Mathlib.Omega.{arith}
use lib.Dec.{eqb}
use lib.ListN.{length, drop, length-append}
use Rattle.rules.specs.Bytes.{padded}
use Rattle.rules.specs.Card.{Next, calls, ends, stops, next, card_name}
use Rattle.rules.proofs.All.{All}
use Rattle.recording.specs.declared.Entry.{Entry}
use Rattle.recording.specs.declared.Entry.TheVariants.{Made, Wrote, Cut, Another, End}
use Rattle.recording.specs.declared.Finding.{Finding}
use Rattle.recording.specs.declared.Finding.TheVariants.{Longer, Unknown, Differs}
use Rattle.recording.specs.Recording.{Item, made, wrote, cut, another, entry_in, entries_by, entries_run, entries}
use Rattle.recording.specs.Recording.{Bench, start, called, called_by, taken}
use Rattle.recording.specs.Recording.{begins, is_nothing, judged, unknown_from, first_unknown, before, longest, checked}
use Rattle.recording.specs.Recorded.{bytes_of, ends_cut, call_of, calls_in, wrote_after, due_from, due_after, right_by, right}
use Rattle.recording.proofs.Entries.{Valid, valid, bytes-all}
use Rattle.recording.proofs.First.{none_right, differs-first}
use Rattle.recording.proofs.Refusing.{IsCall, IsPlace, only_calls, only-places, short-is, is_read, is-unknown}
use Rattle.judge.proofs.Going.{bench-same}
use Rattle.follow.specs.Refereed.{a_call, a_mark, counted, Stand, Found, numbered, called_at, taken_at, begun, followed, refereed}
use Rattle.demands_referee.specs.Beside.{finding_of, counted_of, known}
use Rattle.std.specs.Prelude.{None, Option, Some}

-- ## Entry by entry

-- h, what is known between two entries, at the place i, counted modulo 2^64; k: the place of the last call's mark
abbrev stand : Bench → (k i : ℕ) → Stand
stand h k i = record { bench = numbered h; mark = k; at = counted i }

stand-same : (g h : Bench) (k i j : ℕ) → g ≡ h → i ≡ j
    → ◌≡◌ {A = Stand} (record { bench = g; mark = k; at = i }) (record { bench = h; mark = k; at = j })
stand-same g h k i j p q = cc

called-counted : (x : Next) (h : Bench) → numbered (called_by x (numbered h)) ≡ numbered (called_by x h)
unfolding called_by called
called-counted (calls k left) h = bench-same _ _ _ _ _ _ refl (sym (suc-mod h.number (2 ^ 64))) refl
called-counted (ends k) h = bench-same _ _ _ _ _ _ refl (sym (suc-mod h.number (2 ^ 64))) refl
called-counted stops h = bench-same _ _ _ _ _ _ refl (mod-mod h.number (2 ^ 64)) refl

call-behind : (c : List ℕ) (h : Bench) (k i : ℕ) → called_at c (stand h k i) ≡ stand (called_by (next c) h) (counted i) (i + length c)
unfolding called_at
call-behind c h k i = stand-same _ _ _ _ _ (called-counted (next c) h) (mod-add-mod i (2 ^ 64) (length c))

record-behind : (n : ℕ) (h : Bench) (k i : ℕ) → taken_at n (stand h k i) ≡ stand (taken n h) k (i + n)
unfolding taken_at taken
record-behind n h k i = stand-same _ _ _ _ _ refl (mod-add-mod i (2 ^ 64) n)

-- what is asked decides on both sides: x and j go on, or the call is named; u: what is unknown
either : (b : Bool) (h : Bench) (k i : ℕ) (x : Found) (j u : Option Finding) → finding_of x ≡ counted_of (before j u)
    → finding_of (cond b x (record { kind = a_call; stand = stand h k i })) ≡ counted_of (before (cond b j (Some (Differs h.number))) u)
unfolding finding_of counted_of before
either true h k i x j u e = e
either false h k i x j u e = refl

pub follows : (es : List Item) (h : Bench) (k i : ℕ)
    → finding_of (followed (stand h k i) es) ≡ counted_of (before (judged h (known es)) (unknown_from i es))
unfolding followed judged known unknown_from finding_of counted_of before
follows [] h k i = either (is_nothing h.due) h k i _ None None refl
follows (made c ∷ es) h k i =
    either (is_nothing h.due) h k i _ _ _
    (ap (λ g. finding_of (followed g es)) (call-behind c h k i) ∙ follows es (called_by (next c) h) (counted i) (i + length c))
follows (wrote w ∷ es) h k i =
    either (begins w h.due) h k i _ _ _
    (ap (λ g. finding_of (followed g es)) (record-behind (length w) h k i) ∙ follows es (taken (length w) h) k (i + length w))
follows (cut l ∷ es) h k i = refl
follows (another l ∷ es) h k i = either (is_nothing h.due) h k i _ None (Some (Unknown i)) refl

-- ## Numbers that fit

abbrev Small : ℕ → Option Finding → Type 0
Small b (Some Longer) = Unit {0}
Small b (Some (Unknown i)) = i ≤ b
Small b (Some (Differs n)) = n ≤ b
Small b None = Unit {0}

counted-small : (b : ℕ) (f : Option Finding) → b < 2 ^ 64 → Small b f → counted_of f ≡ f
unfolding counted_of
counted-small b (Some Longer) h s = refl
counted-small b (Some (Unknown i)) h s = ap (λ (m : ℕ). Some (Unknown m)) (mod-eq_of_lt (omega arith))
counted-small b (Some (Differs n)) h s = ap (λ (m : ℕ). Some (Differs m)) (mod-eq_of_lt (omega arith))
counted-small b None h s = refl

small-before : (b : ℕ) (f g : Option Finding) → Small b f → Small b g → Small b (before f g)
unfolding before
small-before b (Some Longer) g s t = tt
small-before b (Some (Unknown i)) g s t = s
small-before b (Some (Differs n)) g s t = s
small-before b None g s t = t

small-or : (t : Bool) (b : ℕ) (f : Option Finding) (n : ℕ) → Small b f → n ≤ b → Small b (cond t f (Some (Differs n)))
small-or true b f n s h = s
small-or false b f n s h = h

called-next : (x : Next) (h : Bench) → (called_by x h).number ≤ h.number + 1
unfolding called_by called
called-next (calls k left) h = omega arith
called-next (ends k) h = omega arith
called-next stops h = omega arith

small-judged : (es : List Item) (h : Bench) (b : ℕ) → h.number + length es ≤ b → Small b (judged h (known es))
unfolding judged known taken
small-judged [] h b s = small-or (is_nothing h.due) b None h.number tt (omega arith)
small-judged (made c ∷ es) h b s =
    small-or (is_nothing h.due) b _ h.number
    (small-judged es (called_by (next c) h) b (omega (arith, called-next (next c) h))) (omega arith)
small-judged (wrote w ∷ es) h b s =
    small-or (begins w h.due) b _ h.number (small-judged es (taken (length w) h) b (omega arith)) (omega arith)
small-judged (cut l ∷ es) h b s = tt
small-judged (another l ∷ es) h b s = small-or (is_nothing h.due) b None h.number tt (omega arith)

small-unknown : (es : List Item) (i b : ℕ) → i + length (bytes_of es) ≤ b → Small b (unknown_from i es)
unfolding unknown_from bytes_of
small-unknown [] i b s = tt
small-unknown (made c ∷ es) i b s = small-unknown es (i + length c) b (omega (arith, length-append c (bytes_of es)))
small-unknown (wrote w ∷ es) i b s = small-unknown es (i + length w) b (omega (arith, length-append w (bytes_of es)))
small-unknown (cut l ∷ es) i b s = tt
small-unknown (another l ∷ es) i b s = omega arith

count-run : (n : ℕ) (l : List ℕ) → length (entries_run n l) ≤ n
unfolding entries_run entries_by
count-run zero l = omega arith
count-run (suc n) l = go (entry_in l) (count-run n)
  where
    go : (e : Entry) → ((m : List ℕ) → length (entries_run n m) ≤ n) → length (entries_by (entries_run n) e l) ≤ suc n
    go (Made k) f = omega (arith, f (drop k l))
    go (Wrote k) f = omega (arith, f (drop k l))
    go Cut f = omega arith
    go Another f = omega arith
    go End f = omega arith

-- ## A whole recording

abbrev pub ours : List ℕ
ours = padded card_name

module _ (l : List ℕ) where
  -- of any length
  pub refereed-counted : finding_of (refereed ours l) ≡ counted_of (before (judged start (known (entries l))) (first_unknown l))
  unfolding refereed begun start first_unknown
  refereed-counted = follows (entries l) start 0 0

  small_all : Small (length l) (before (judged start (known (entries l))) (first_unknown l))
  unfolding start first_unknown entries
  small_all =
      small-before (length l) _ _
      (small-judged (entries l) start (length l) (omega (arith, count-run (length l) l)))
      (small-unknown (entries l) 0 (length l) (omega (arith, ap length (bytes-all l))))

  -- of a length that fits a number
  pub refereed-is : length l < 2 ^ 64 → finding_of (refereed ours l) ≡ before (judged start (known (entries l))) (first_unknown l)
  refereed-is h = refereed-counted ∙ counted-small (length l) _ h small_all

-- ## Without an unknown mark

pub known-all : (es : List Item) (i : ℕ) → unknown_from i es ≡ None → known es ≡ es
unfolding known unknown_from
known-all [] i e = refl
known-all (made c ∷ es) i e = ap (λ x. made c ∷ x) (known-all es (i + length c) e)
known-all (wrote w ∷ es) i e = ap (λ x. wrote w ∷ x) (known-all es (i + length w) e)
known-all (cut l ∷ es) i e = refl
known-all (another l ∷ es) i e = absurd (let y : ◌≡◌ {A = ℕ} 0 1 = cc in omega arith)

-- what belongs to which call is the same
calls-known : (es : List Item) → calls_in (known es) ≡ calls_in es
unfolding known calls_in
calls-known [] = refl
calls-known (made c ∷ es) = ap (λ x. call_of (next c) ++ x) (calls-known es)
calls-known (wrote w ∷ es) = calls-known es
calls-known (cut l ∷ es) = refl
calls-known (another l ∷ es) = refl

wrote-known : (es : List Item) (i : ℕ) → wrote_after (known es) i ≡ wrote_after es i
unfolding known wrote_after
wrote-known [] i = refl
wrote-known (made c ∷ es) zero = refl
wrote-known (made c ∷ es) (suc i) = wrote-known es i
wrote-known (wrote w ∷ es) zero = ap (λ x. w ++ x) (wrote-known es zero)
wrote-known (wrote w ∷ es) (suc i) = wrote-known es (suc i)
wrote-known (cut l ∷ es) i = refl
wrote-known (another l ∷ es) i = refl

cut-known : (es : List Item) → ends_cut (known es) ≡ ends_cut es
unfolding known ends_cut
cut-known [] = refl
cut-known (made c ∷ es) = cut-known es
cut-known (wrote w ∷ es) = cut-known es
cut-known (cut l ∷ es) = refl
cut-known (another l ∷ es) = refl

due-known : (es : List Item) (i : ℕ) → due_after (known es) i ≡ due_after es i
unfolding due_after due_from
due-known es i = rw (calls-known es)

right-known : (es : List Item) (i : ℕ) → right (known es) i ≡ right es i
unfolding right right_by
right-known es i = rw (wrote-known es i, due-known es i, cut-known es, calls-known es)

valid-known : (es : List Item) → All Valid es → All Valid (known es)
unfolding known
valid-known [] a = tt
valid-known (made c ∷ es) a = (a.0, valid-known es a.1)
valid-known (wrote w ∷ es) a = (a.0, valid-known es a.1)
valid-known (cut l ∷ es) a = a
valid-known (another l ∷ es) a = tt

-- ## The checker and the referee

before-none : (y : Option Finding) → before y None ≡ y
unfolding before
before-none (Some Longer) = refl
before-none (Some (Unknown i)) = refl
before-none (Some (Differs n)) = refl
before-none None = refl

pub short-fits : (l : List ℕ) → length l ≤ longest → length l < 2 ^ 64
short-fits l h = omega arith

module _ (l : List ℕ) where
  abbrev pub finding : Option Finding
  finding = finding_of (refereed ours l)

  known-here : first_unknown l ≡ None → known (entries l) ≡ entries l
  unfolding first_unknown
  known-here e = known-all (entries l) 0 e

  place : IsPlace (first_unknown l)
  unfolding first_unknown
  place = only-places 0 (entries l)

  -- where no mark is unknown, what is judged
  judged-is : length l < 2 ^ 64 → first_unknown l ≡ None → finding ≡ judged start (entries l)
  judged-is h e =
      refereed-is l h ∙ ap₂ (λ x u. before (judged start x) u) (known-here e) e ∙ before-none (judged start (entries l))

  module _ (h : length l < 2 ^ 64) where
    pub none_is : finding ≡ None → (judged start (entries l) ≡ None) × (first_unknown l ≡ None)
    unfolding before
    none_is e =
        let u = go (judged start (known (entries l))) (first_unknown l) (sym (refereed-is l h) ∙ e) in (sym (judged-is h u) ∙ e, u)
      where
        go : (j u : Option Finding) → before j u ≡ None → u ≡ None
        go None u z = z
        go (Some Longer) u z = absurd (let y : ◌≡◌ {A = ℕ} 0 1 = cc in omega arith)
        go (Some (Unknown i)) u z = absurd (let y : ◌≡◌ {A = ℕ} 0 1 = cc in omega arith)
        go (Some (Differs n)) u z = absurd (let y : ◌≡◌ {A = ℕ} 0 1 = cc in omega arith)

    pub differs-is : (n : ℕ) → finding ≡ Some (Differs n) → judged start (known (entries l)) ≡ Some (Differs n)
    unfolding before
    differs-is n e = go (judged start (known (entries l))) (first_unknown l) place (sym (refereed-is l h) ∙ e)
      where
        go : (j u : Option Finding) → IsPlace u → before j u ≡ Some (Differs n) → j ≡ Some (Differs n)
        go None u p z = absurd (subst IsPlace z p)
        go (Some Longer) u p z = z
        go (Some (Unknown i)) u p z = z
        go (Some (Differs k)) u p z = z

    pub unknown-is : (i : ℕ) → finding ≡ Some (Unknown i) → first_unknown l ≡ Some (Unknown i)
    unfolding before
    unknown-is i e =
        go (judged start (known (entries l))) (first_unknown l) (only_calls start (known (entries l))) (sym (refereed-is l h) ∙ e)
      where
        go : (j u : Option Finding) → IsCall j → before j u ≡ Some (Unknown i) → u ≡ Some (Unknown i)
        go None u c z = z
        go (Some Longer) u c z = absurd c
        go (Some (Unknown k)) u c z = absurd c
        go (Some (Differs k)) u c z = absurd (let y : ◌≡◌ {A = ℕ} 0 1 = cc in omega arith)

  -- no recording is too long
  pub never-longer : finding ≡ Some Longer → ⊥
  unfolding finding_of
  never-longer e =
      let f = refereed ours l in go (eqb f.kind a_call) (eqb f.kind a_mark) f.stand.bench.number f.stand.at e
    where
      go : (a b : Bool) (n i : ℕ) → cond a (Some (Differs n)) (cond b (Some (Unknown i)) None) ≡ Some Longer → ⊥
      go true b n i z = let y : ◌≡◌ {A = ℕ} 0 1 = cc in omega arith
      go false true n i z = let y : ◌≡◌ {A = ℕ} 0 1 = cc in omega arith
      go false false n i z = let y : ◌≡◌ {A = ℕ} 0 1 = cc in omega arith

  -- of a recording that the checker reads: its finding is the referee's, with an unknown mark anywhere before it
  pub checked-is : length l ≤ longest → checked l ≡ before (first_unknown l) finding
  unfolding before
  checked-is h = short-is l h ∙ go (first_unknown l) refl
    where
      go : (u : Option Finding) → first_unknown l ≡ u → before u (judged start (entries l)) ≡ before u finding
      go None e = sym (judged-is (short-fits l h) e)
      go (Some Longer) e = refl
      go (Some (Unknown i)) e = refl
      go (Some (Differs n)) e = refl

  pub none_both : length l ≤ longest → (finding ≡ None → checked l ≡ None) × (checked l ≡ None → finding ≡ None)
  unfolding before
  none_both h = (
    λ e. checked-is h ∙ ap₂ before (none_is (short-fits l h) e).1 e,
    λ e. let r = is_read l e tt in judged-is (short-fits l h) r.known ∙ r.found,
  )

  pub checked-differs : (n : ℕ) → checked l ≡ Some (Differs n) → finding ≡ Some (Differs n)
  checked-differs n e = let r = is_read l e tt in judged-is (short-fits l r.short) r.known ∙ r.found

  pub refereed-unknown : (i : ℕ) → length l ≤ longest → finding ≡ Some (Unknown i) → checked l ≡ Some (Unknown i)
  unfolding before
  refereed-unknown i h e = checked-is h ∙ ap (λ u. before u finding) (unknown-is (short-fits l h) i e)

  -- where the checker refuses a mark, the referee tells it too, or a call that differs before it or of which something is due there
  pub record Earlier : Type 0 where
    pub call : ℕ
    pub differs : finding ≡ Some (Differs call)

  pub checked-unknown : (i : ℕ) → checked l ≡ Some (Unknown i) → (finding ≡ Some (Unknown i)) ⊎ Earlier
  unfolding before
  checked-unknown i e = go (judged start (known (entries l))) refl (only_calls start (known (entries l)))
    where
      is : finding ≡ before (judged start (known (entries l))) (Some (Unknown i))
      is =
          let u = is-unknown l e in
          refereed-is l (short-fits l u.0) ∙ ap (before (judged start (known (entries l)))) u.1

      go : (j : Option Finding) → judged start (known (entries l)) ≡ j → IsCall j → (finding ≡ Some (Unknown i)) ⊎ Earlier
      go None z c = inl (is ∙ ap (λ j. before j (Some (Unknown i))) z)
      go (Some (Differs n)) z c = inr (record { call = n; differs = is ∙ ap (λ j. before j (Some (Unknown i))) z })
      go (Some Longer) z c = absurd c
      go (Some (Unknown k)) z c = absurd c

  -- ## What a finding says: the checker's theorems, of any length that fits a number

  pub first-that-differs : length l < 2 ^ 64 → (n : ℕ) → finding ≡ Some (Differs n)
      → (n ≤ length (calls_in (entries l)))
      × ((i : ℕ) → i < n → wrote_after (entries l) i ≡ due_after (entries l) i)
      × (right (entries l) n ≡ false)
  unfolding start due_after right
  first-that-differs h n e =
      let es = entries l in
      let d = differs-first (known es) start n (valid-known es (valid l)) (differs-is h n e) in
      let z : n ≡ d.at = omega (arith, d.is) in (
        omega (arith, d.among, ap length (calls-known es)),
        λ i k. sym (wrote-known es i) ∙ d.before i (omega arith) ∙ due-known es i,
        sym (right-known es n) ∙ subst (λ i. right (known es) i ≡ false) (sym z) d.wrong,
      )

  pub none-differs : length l < 2 ^ 64 → finding ≡ None → (i : ℕ) → i ≤ length (calls_in (entries l)) → right (entries l) i ≡ true
  unfolding start due_after right first_unknown
  none-differs h e = let r = none_is h e in none_right (entries l) start 0 (valid l) r.0 r.1
