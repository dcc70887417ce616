-- One entry gone through: the judgement of the rest is that of the whole.
-- Rests on recording's laws of entries, and on feed's promise: what is played stands at the start of the buffer.
use mathlib.Core.Path.{◌≡◌, refl, sym, ap, ap₂, ◌∙◌}
use mathlib.Core.Bool.{Bool, true, false, cond}
use mathlib.Core.List.{List}
use mathlib.Core.Logic.{◌⊎◌, inl, inr}
use Prim.Native.Nat.{ℕ, suc, ◌+◌, ◌-◌, ◌≤◌, ◌<◌}
use native.Mathlib.Numerals.{add-one}
use native.Mathlib.Omega.{arith}
use lib.ListN.{length, take, drop, length-append, length-drop}
use lib.Seq.{length-take-le, take_at, take-add, drop_at, drop-drop}
use borrow.Author.Tests.{ltb-true, ltb-false, eq-eqb, ne_eqb}
use Rattle.std.specs.Prelude.{Some, None}
use Rattle.rules.specs.Bytes.{written}
use Rattle.rules.specs.State.{Splicer}
use Rattle.rules.specs.Card.{Next, calls, ends, stops, next}
use Rattle.rules.proofs.Tests.{by}
use Rattle.memory.specs.Memory.{shown}
use Rattle.engine.specs.Lent.{Lent}
use Rattle.feed.specs.Feed.{record_in, used_by, is_cut}
use Rattle.feed.specs.Play.{step_by, step_of}
use Rattle.recording.specs.declared.Entry.{Entry}
use Rattle.recording.specs.declared.Entry.TheVariants.{Made, Wrote, Cut, Another, End}
use Rattle.recording.specs.declared.Finding.TheVariants.{Differs}
use Rattle.recording.specs.Recording.{entry_in, entries_by, entries, Bench, called, called_by, taken, begins, is_nothing, judged}
use Rattle.recording.proofs.Entries.{Begins, begins-as, span-two, entries-step}
use Rattle.recording.proofs.Calling.{Calls, is-called, called-front}
use Rattle.judge.specs.declared.turns.Still.{Still}
use Rattle.judge.specs.Judge.{unmet, at_end, bench_of, Stands, Makes, GoesOn}
use Rattle.judge.proofs.Bytes.{begins-within}

-- ## By the kind of the entry

module _ (g : Bench) (l : List ℕ) where
  step : {e : Entry} → entry_in l ≡ e → judged g (entries l) ≡ judged g (entries_by entries e l)
  step e = ap (judged g) (entries-step l ∙ ap (λ x. entries_by entries x l) e)

  pub cut-judged : entry_in l ≡ Cut → judged g (entries l) ≡ None
  unfolding entries_by judged
  cut-judged e = step e

  pub another-judged : entry_in l ≡ Another → judged g (entries l) ≡ None
  unfolding entries_by judged
  another-judged e = step e

  -- nothing is asked there
  pub unread-judged : {e : Entry} → e ≡ entry_in l → (e ≡ Cut) ⊎ (e ≡ Another) → judged g (entries l) ≡ None
  unread-judged f (inl k) = cut-judged (sym f ∙ k)
  unread-judged f (inr k) = another-judged (sym f ∙ k)

  call-judged : (n : ℕ) → entry_in l ≡ Made n
      → judged g (entries l) ≡ cond (is_nothing g.due) (judged (called_by (next l) g) (entries (drop n l))) (Some (Differs g.number))
  unfolding entries_by judged
  call-judged n e =
      step e ∙ ap (λ y. cond (is_nothing g.due) (judged y (entries (drop n l))) (Some (Differs g.number))) (called-front l n e g)

  record-judged : (n : ℕ) → entry_in l ≡ Wrote n
      → judged g (entries l) ≡ cond (begins (take n l) g.due) (judged (taken n g) (entries (drop n l))) (Some (Differs g.number))
  unfolding entries_by judged
  record-judged n e =
      let b : Begins l (Wrote n) = begins-as l e in
      step e
      ∙ ap (λ k. cond (begins (take n l) g.due) (judged (taken k g) (entries (drop n l))) (Some (Differs g.number)))
      (length-take-le n l b.0.there)

  end-judged : entry_in l ≡ End → judged g (entries l) ≡ cond (is_nothing g.due) None (Some (Differs g.number))
  unfolding entries_by judged
  end-judged e = step e

pub made_some : (l : List ℕ) (n : ℕ) → entry_in l ≡ Made n → (2 ≤ n) × (n ≤ length l)
made_some l n e = let b : Begins l (Made n) = begins-as l e in (omega (arith, span-two l, b.0.asked), b.0.there)

pub wrote-there : (l : List ℕ) (n : ℕ) → entry_in l ≡ Wrote n → n ≤ length l
wrote-there l n e = let b : Begins l (Wrote n) = begins-as l e in b.0.there

-- ## What is still due

pub bench-same : (s t : Splicer) (n m : ℕ) (d e : List ℕ) → s ≡ t → n ≡ m → d ≡ e
    → ◌≡◌ {A = Bench} (record { splicer = s; number = n; due = d }) (record { splicer = t; number = m; due = e })
bench-same s t n m d e p q r = cc

module _ (g : Still) (m b o : List ℕ) (w : g.from ≤ g.end) (r : g.end ≤ length o) where
  pub due-length : length (bench_of g m b o).due ≡ g.end - g.from
  due-length = length-take-le (g.end - g.from) (drop g.from o) (omega (arith, length-drop g.from o, w, r))

  pub nothing : g.end ≤ g.from → is_nothing (bench_of g m b o).due ≡ true
  unfolding is_nothing
  nothing e = eq-eqb (length (bench_of g m b o).due) 0 (omega (arith, due-length))

  pub something : g.from < g.end → is_nothing (bench_of g m b o).due ≡ false
  unfolding is_nothing
  something e = ne_eqb (length (bench_of g m b o).due) 0 (λ z. omega (arith, due-length))

  pub due-within : (v : List ℕ) → begins v (bench_of g m b o).due ≡ true → g.from + length v ≤ g.end
  due-within v k = omega (arith, begins-within v (bench_of g m b o).due k, due-length, w)

module _ (g : Still) (l m b o : List ℕ) (h : Stands g l o) where
  pub end_on : entry_in l ≡ End → judged (bench_of g m b o) (entries l) ≡ at_end g
  end_on e =
      by (λ f. judged (bench_of g m b o) (entries l) ≡ f) (unmet g) (Some (Differs g.number)) None
      (λ t. end-judged (bench_of g m b o) l e ∙ rw (something g m b o h.within h.room (ltb-true g.from g.end t)))
      (λ t. end-judged (bench_of g m b o) l e ∙ rw (nothing g m b o h.within h.room (ltb-false g.from g.end t)))

-- ## A call

-- the card program's call of an entry, as it is played
called-step : (l : List ℕ) (n : ℕ) (x : Next) → Calls l n x → (u : ℕ) (t : Bool) (g : Bench)
    → called_by x g ≡ record {
      splicer = (step_by u t x g.splicer).splicer;
      number = suc g.number;
      due =
          (step_by u t x g.splicer).shows;
    }
unfolding called_by called step_by
called-step l n (calls k left) c u t g = refl
called-step l n (ends k) c u t g = refl
called-step l n stops c u t g = absurd c

-- what was written stands at the start of the buffer
at-start : (e w o : List ℕ) (k : ℕ) → o ≡ written e 0 w → k ≡ length w → (k ≤ length o) × (take k o ≡ w)
unfolding written
at-start e w o k h f =
    (rw h (simp length-append (omega arith)), ap₂ take f h ∙ take_at w (drop (0 + length w) e) (length w) refl)

module _ (g : Still) (l m b o : List ℕ) (n : ℕ) (e : entry_in l ≡ Made n) where
  -- len: the bytes of its records; the memory and the buffer after it
  module _ {len : ℕ} {v c q : List ℕ} (y : Makes l m b o len v c q) where
    abbrev pub after : Still
    after = record { number = g.number + 1; from = 0; end = len }

    pub due-after : (len ≤ length q) × (take len q ≡ (step_of l (shown m b)).shows)
    due-after = at-start o (step_of l (shown m b)).shows q len y.bytes y.count

    pub bench-after : called_by (next l) (bench_of g m b o) ≡ bench_of after v c q
    unfolding step_of
    bench-after =
        called-step l n (next l) (is-called l n e) (used_by (record_in l)) (is_cut (record_in l)) (bench_of g m b o)
        ∙ bench-same _ _ _ _ _ _ (sym y.splicer) (sym (add-one g.number))
        (let i : len ≡ len - 0 = omega arith in sym due-after.1 ∙ ap (λ k. take k q) i)

module _ (g : Still) (l m b o : List ℕ) (h : Stands g l o) (n : ℕ) (e : entry_in l ≡ Made n) where
  pub call-unmet : g.from < g.end → judged (bench_of g m b o) (entries l) ≡ Some (Differs g.number)
  call-unmet k = call-judged (bench_of g m b o) l n e ∙ rw (something g m b o h.within h.room k)

  module _ {len : ℕ} {v c q : List ℕ} (y : Makes l m b o len v c q) where
    pub call-on : g.end ≤ g.from → GoesOn (bench_of g m b o) l n (after g l m b o n e y) v c q
    call-on k =
        let z : Begins l (Made n) = begins-as l e in
        let two = span-two l in
        let d = length-drop n l in
        let a = due-after g l m b o n e y in
        record {
          lent = y.lent;
          some = omega (arith, z.0.asked);
          there = z.0.there;
          stands = record { within = omega arith; room = a.0; few = omega (arith, z.0.asked, z.0.there, h.few) };
          finds =
              call-judged (bench_of g m b o) l n e
              ∙ rw (nothing g m b o h.within h.room k) (ap (λ x. judged x (entries (drop n l))) (bench-after g l m b o n e y));
        }

-- ## A record

-- n of the bytes from a to e were written
pub due-left : (o : List ℕ) (a e n : ℕ) → a + n ≤ e → e ≤ length o → drop n (take (e - a) (drop a o)) ≡ take (e - (a + n)) (drop (a + n) o)
due-left o a e n h k =
    let long : length (take n (drop a o)) ≡ n = length-take-le n (drop a o) (omega (arith, length-drop a o)) in
    let i : e - a ≡ n + (e - (a + n)) = omega arith in
    ap (λ j. drop n (take j (drop a o))) i
    ∙ ap (drop n) (take-add n (e - (a + n)) (drop a o))
    ∙ drop_at (take n (drop a o)) (take (e - (a + n)) (drop n (drop a o))) n long
    ∙ ap (take (e - (a + n))) (drop-drop n a o)

module _ (g : Still) (l m b o : List ℕ) (h : Stands g l o) (n : ℕ) (e : entry_in l ≡ Wrote n) where
  pub record-wrong : begins (take n l) (bench_of g m b o).due ≡ false → judged (bench_of g m b o) (entries l) ≡ Some (Differs g.number)
  record-wrong k = record-judged (bench_of g m b o) l n e ∙ rw k

  kind : Begins l (Wrote n)
  kind = begins-as l e

  pub record-within : begins (take n l) (bench_of g m b o).due ≡ true → g.from + n ≤ g.end
  record-within k =
      omega (arith, due-within g m b o h.within h.room (take n l) k, length-take-le n l kind.0.there)

  pub record-on : Lent m b → begins (take n l) (bench_of g m b o).due ≡ true
      → GoesOn (bench_of g m b o) l n (record { number = g.number; from = g.from + n; end = g.end }) m b o
  unfolding taken
  record-on t k =
      let two = span-two l in
      let d = length-drop n l in
      let i = record-within k in
      record {
        lent = t;
        some = omega (arith, kind.0.asked);
        there = kind.0.there;
        stands = record { within = i; room = h.room; few = omega (arith, h.few) };
        finds =
            record-judged (bench_of g m b o) l n e
            ∙ rw k (ap (λ x. judged x (entries (drop n l)))
            (bench-same _ _ _ _ _ _ refl refl (due-left o g.from g.end n i h.room)));
      }
