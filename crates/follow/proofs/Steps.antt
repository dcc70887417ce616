-- One entry, whole entries in front, one byte, a piece: whatever follows, what is found in the end stays.
-- Rests on proofs/Open, on recording's laws of entries, and on the checker's: a call that is made is the definition's.
use Rattle.std.proofs.Common.{◌≡◌, ℕ, ◌+◌, ◌-◌, ◌%◌, ◌^◌, ◌<◌, ◌≤◌, Bool, true, false, cond, eqb, List, [], ◌++◌, length, take, drop}
use Rattle.std.proofs.Common.{sym, refl, ap, ◌∙◌, subst, append_assoc, arith, length-drop, length-take-le, take_all, take-add, eq-eqb}
use Rattle.std.proofs.Common.{ne_eqb, eqb-true}
use mathlib.Core.Logic.{◌⊎◌, inl, inr}
use borrow.Author.Tests.{eqb-false}
use Rattle.recording.specs.declared.Entry.{Entry}
use Rattle.recording.specs.declared.Entry.TheVariants.{Made, Wrote, Cut, Another, End}
use Rattle.recording.specs.Recording.{entry_in, entries_by, entries, Bench, taken, begins, is_nothing}
use Rattle.recording.proofs.Entries.{Begins, begins-as, span-two, entries-step, entries-made, entries-wrote, made-whole, wrote-whole}
use Rattle.recording.proofs.Calling.{called-front}
use Rattle.judge.specs.declared.turns.Still.{Still}
use Rattle.judge.specs.Judge.{Makes}
use Rattle.judge.proofs.Going.{bench-same, nothing, something, due-within, due-after, bench-after, due-left}
use Rattle.follow.specs.declared.Stage.{Stage}
use Rattle.follow.specs.declared.Went.{Went}
use Rattle.follow.specs.Refereed.{in_order, a_call, a_mark, a_cut, counted, Stand, numbered, called_at, taken_at, unless_due, followed}
use Rattle.follow.specs.Following.{is_open, stand_of, found_in, Stands, Goes, span_of, Steps, Runs, told_as}
use Rattle.follow.proofs.Open.{another-mark, another-there}

-- ## What is found, by whether something was told

module _ (s : Stage) (m b o l : List ℕ) where
  pub found-on : s.told ≡ in_order → found_in s m b o l ≡ followed (stand_of s m b o) (entries l)
  unfolding found_in
  found-on e = rw (eq-eqb s.told in_order e)

  pub found-over : (s.told ≡ in_order → ⊥) → found_in s m b o l ≡ record { kind = s.told; stand = stand_of s m b o }
  unfolding found_in
  found-over e = rw (ne_eqb s.told in_order e)

-- the stage without what the promise does not speak of
abbrev pub still : Stage → Still
still s = record { number = s.number; from = s.from; end = s.end }

stand-same : (g h : Bench) (a b c d : ℕ) → g ≡ h → a ≡ b → c ≡ d
    → ◌≡◌ {A = Stand} (record { bench = g; mark = a; at = c }) (record { bench = h; mark = b; at = d })
stand-same g h a b c d p q r = cc

-- ## One entry

module _ (s : Stage) (l m b o : List ℕ) (h : Stands s m b o) (z : s.told ≡ in_order) where
  abbrev here : Stand
  here = stand_of s m b o

  met : s.end ≤ s.from → is_nothing here.bench.due ≡ true
  met e = nothing (still s) m b o h.within h.room e

  unmet : s.from < s.end → is_nothing here.bench.due ≡ false
  unmet e = something (still s) m b o h.within h.room e

  told-stands : (k : ℕ) → k < a_cut → Stands (told_as k s) m b o
  told-stands k e = record { lent = h.lent; within = h.within; room = h.room; kind = e }

  told-call : (more : List ℕ) → found_in (told_as a_call s) m b o more ≡ record { kind = a_call; stand = here }
  told-call more = found-over (told_as a_call s) m b o more (λ e. omega (arith, e))

  told-mark : (more : List ℕ) → found_in (told_as a_mark s) m b o more ≡ record { kind = a_mark; stand = here }
  told-mark more = found-over (told_as a_mark s) m b o more (λ e. omega (arith, e))

  -- ### A call

  module _ (n : ℕ) (e : entry_in l ≡ Made n) where
    made-is : Begins l (Made n)
    made-is = begins-as l e

    found-made : (more : List ℕ) → found_in s m b o (take n l ++ more) ≡ unless_due here
        (followed (called_at (take n l) here) (entries more))
    unfolding followed
    found-made more =
        found-on s m b o (take n l ++ more) z ∙ ap (followed here) (entries-made (take n l) more (made-whole l n e))

    made_some : (n ≡ 0 → ⊥)
    made_some f = omega (arith, span-two l, made-is.0.asked)

    made-span : n ≡ span_of (entry_in l)
    unfolding span_of
    made-span = sym (ap span_of e)

    pub call-wrong : s.from < s.end → Steps s l m b o (record { taken = n; stage = told_as a_call s }) m b o
    call-wrong f =
        record {
          goes = record {
            stands = told-stands a_call (omega arith);
            have = refl;
            there = made-is.0.there;
            finds = λ more. found-made more ∙ rw (unmet f) (sym (told-call more));
          };
          span = made-span;
          none = λ q. absurd (made_some q);
        }

    module _ {len : ℕ} {v c q : List ℕ} (y : Makes l m b o len v c q) where
      abbrev pub after : Stage
      after =
          record {
            told = s.told;
            number = (s.number + 1) % 2 ^ 64;
            mark = s.at;
            at = (s.at + n) % 2 ^ 64;
            from = 0;
            end = len;
            have = s.have;
          }

      stand-after : called_at (take n l) here ≡ stand_of after v c q
      unfolding called_at
      stand-after =
          stand-same _ _ _ _ _ _
          (ap numbered (called-front l n e here.bench ∙ bench-after (still s) l m b o n e y))
          refl (ap (λ i. counted (s.at + i)) (length-take-le n l made-is.0.there))

      pub call-right : s.end ≤ s.from → Steps s l m b o (record { taken = n; stage = after }) v c q
      call-right f =
          record {
            goes = record {
              stands = record {
                lent = y.lent;
                within = omega arith;
                room = (due-after (still s) l m b o n e y).0;
                kind = h.kind;
              };
              have = refl;
              there = made-is.0.there;
              finds = λ more. found-made more
                  ∙ rw (met f) (ap (λ g. followed g (entries more)) stand-after ∙ sym (found-on after v c q more z));
            };
            span = made-span;
            none = λ r. absurd (made_some r);
          }

  -- ### A record

  module _ (n : ℕ) (e : entry_in l ≡ Wrote n) where
    wrote-is : Begins l (Wrote n)
    wrote-is = begins-as l e

    long : length (take n l) ≡ n
    long = length-take-le n l wrote-is.0.there

    found-wrote : (more : List ℕ) → found_in s m b o (take n l ++ more)
        ≡ cond (begins (take n l) here.bench.due) (followed (taken_at n here) (entries more)) (record { kind = a_call; stand = here })
    unfolding followed
    found-wrote more =
        found-on s m b o (take n l ++ more) z
        ∙ ap (followed here) (entries-wrote (take n l) more (wrote-whole l n e))
        ∙ ap
        (λ i. cond (begins (take n l) here.bench.due) (followed (taken_at i here) (entries more))
        (record { kind = a_call; stand = here }))
        long

    wrote-some : (n ≡ 0 → ⊥)
    wrote-some f = omega (arith, span-two l, wrote-is.0.asked)

    wrote-span : n ≡ span_of (entry_in l)
    unfolding span_of
    wrote-span = sym (ap span_of e)

    pub wrote-there : n ≤ length l
    wrote-there = wrote-is.0.there

    pub record-wrong : begins (take n l) here.bench.due ≡ false → Steps s l m b o (record { taken = n; stage = told_as a_call s }) m b o
    record-wrong f =
        record {
          goes = record {
            stands = told-stands a_call (omega arith);
            have = refl;
            there = wrote-is.0.there;
            finds = λ more. found-wrote more ∙ rw f (sym (told-call more));
          };
          span = wrote-span;
          none = λ q. absurd (wrote-some q);
        }

    pub record-within : begins (take n l) here.bench.due ≡ true → s.from + n ≤ s.end
    record-within f = omega (arith, due-within (still s) m b o h.within h.room (take n l) f, long)

    abbrev pub behind : Stage
    behind =
        record {
          told = s.told;
          number = s.number;
          mark = s.mark;
          at = (s.at + n) % 2 ^ 64;
          from = s.from + n;
          end = s.end;
          have = s.have;
        }

    pub record-right : begins (take n l) here.bench.due ≡ true → Steps s l m b o (record { taken = n; stage = behind }) m b o
    unfolding taken_at taken
    record-right f =
        let i = record-within f in
        let d : taken_at n here ≡ stand_of behind m b o =
        stand-same _ _ _ _ _ _ (bench-same _ _ _ _ _ _ refl refl (due-left o s.from s.end n i h.room)) refl refl in
        record {
          goes = record {
            stands = record { lent = h.lent; within = i; room = h.room; kind = h.kind };
            have = refl;
            there = wrote-is.0.there;
            finds = λ more. found-wrote more ∙ rw f (ap (λ g. followed g (entries more)) d ∙ sym (found-on behind m b o more z));
          };
          span = wrote-span;
          none = λ q. absurd (wrote-some q);
        }

  -- ### An unknown mark

  module _ (e : entry_in l ≡ Another) where
    found-another : (more : List ℕ) → found_in s m b o (take 1 l ++ more) ≡ unless_due here (record { kind = a_mark; stand = here })
    unfolding followed entries_by
    found-another more =
        found-on s m b o (take 1 l ++ more) z
        ∙ ap (followed here) (entries-step (take 1 l ++ more) ∙ ap (λ x. entries_by entries x (take 1 l ++ more)) (another-mark l more e))

    another-span : 1 ≡ span_of (entry_in l)
    unfolding span_of
    another-span = sym (ap span_of e)

    strange : (k : ℕ) → k < a_cut → ((more : List ℕ) → found_in s m b o (take 1 l ++ more) ≡ found_in (told_as k s) m b o more)
        → Steps s l m b o (record { taken = 1; stage = told_as k s }) m b o
    strange k f g =
        record {
          goes = record { stands = told-stands k f; have = refl; there = another-there l e; finds = g };
          span = another-span;
          none = λ q. absurd (omega (arith, q));
        }

    pub strange-due : s.from < s.end → Steps s l m b o (record { taken = 1; stage = told_as a_call s }) m b o
    strange-due f = strange a_call (omega arith) (λ more. found-another more ∙ rw (unmet f) (sym (told-call more)))

    pub strange-met : s.end ≤ s.from → Steps s l m b o (record { taken = 1; stage = told_as a_mark s }) m b o
    strange-met f = strange a_mark (omega arith) (λ more. found-another more ∙ rw (met f) (sym (told-mark more)))

  -- ### No whole entry

  pub step-none : is_open (entry_in l) ≡ true → 0 ≡ span_of (entry_in l) → Steps s l m b o (record { taken = 0; stage = s }) m b o
  step-none f g =
      record {
        goes = record { stands = h; have = refl; there = omega arith; finds = λ more. refl };
        span = g;
        none = λ q. record { part = f; stage = refl; words = refl; bytes = refl; due = refl };
      }

-- ## As the code has it

-- the stage by another name
pub with-stage : {s x t : Stage} {l m b o v c q : List ℕ} {n : ℕ} → t ≡ x
    → Steps s l m b o (record { taken = n; stage = x }) v c q → Steps s l m b o (record { taken = n; stage = t }) v c q
with-stage {s} {x} {t} {l} {m} {b} {o} {v} {c} {q} {n} e h =
    subst (λ y. Steps s l m b o (record { taken = n; stage = y }) v c q) (sym e) h

module _ (s : Stage) (l m b o : List ℕ) (h : Stands s m b o) (z : s.told ≡ in_order) (n : ℕ) where
  pub call_at : (e : entry_in l ≡ Made n) {len i j : ℕ} {v c q : List ℕ} → Makes l m b o len v c q
      → i ≡ (s.number + 1) % 2 ^ 64 → j ≡ (s.at + n) % 2 ^ 64 → s.end ≤ s.from
      → Steps s l m b o
      (record {
        taken = n;
        stage = record { told = s.told; number = i; mark = s.at; at = j; from = 0; end = len; have = s.have };
      })
      v c q
  call_at e y f g k = with-stage (cc) (call-right s l m b o h z n e y k)

  pub record-at : entry_in l ≡ Wrote n → {j : ℕ} → j ≡ (s.at + n) % 2 ^ 64
      → begins (take n l) (take (s.end - s.from) (drop s.from o)) ≡ true
      → Steps s l m b o
      (record {
        taken = n;
        stage = record { told = s.told; number = s.number; mark = s.mark; at = j; from = s.from + n; end = s.end; have = s.have };
      })
      m b o
  record-at e g f = with-stage (cc) (record-right s l m b o h z n e f)

pub within-at : (s : Stage) (l o : List ℕ) (n : ℕ) → s.from ≤ s.end → s.end ≤ length o → entry_in l ≡ Wrote n
    → begins (take n l) (take (s.end - s.from) (drop s.from o)) ≡ true → s.from + n ≤ s.end
within-at s l o n w r e f =
    let b : Begins l (Wrote n) = begins-as l e in
    omega (arith, due-within (still s) [] [] o w r (take n l) f, length-take-le n l b.0.there)

pub open_step : (s : Stage) (l m b o : List ℕ) (e : Entry) → Stands s m b o → s.told ≡ in_order → entry_in l ≡ e → is_open e ≡ true
    → 0 ≡ span_of e → Steps s l m b o (record { taken = 0; stage = s }) m b o
open_step s l m b o e h z f p q =
    step-none s l m b o h z (ap is_open f ∙ p) (q ∙ sym (ap span_of f))

pub open_last : (s : Stage) (l m b o : List ℕ) (e : Entry) → Stands s m b o → s.told ≡ in_order → entry_in l ≡ e
    → (e ≡ Cut) ⊎ (e ≡ End) → Steps s l m b o (record { taken = 0; stage = s }) m b o
unfolding is_open span_of
open_last s l m b o e h z f (inl g) = open_step s l m b o Cut h z (f ∙ g) refl refl
open_last s l m b o e h z f (inr g) = open_step s l m b o End h z (f ∙ g) refl refl

-- ## Entry by entry

-- some entries in front of l were gone through, and nothing was told
pub record Gone (s : Stage) (l m b o : List ℕ) (at : ℕ) (t : Stage) (v c q : List ℕ) : Type 0 where
  pub goes : Goes s l m b o (record { taken = at; stage = t }) v c q
  pub on : t.told ≡ in_order
  pub first : (at ≡ 0 → ⊥) → span_of (entry_in l) ≤ at
  pub some : span_of (entry_in l) ≡ 0 → at ≡ 0
  pub same : at ≡ 0 → (t ≡ s) × (v ≡ m) × (c ≡ b) × (q ≡ o)

pub gone-none : (s : Stage) (l m b o : List ℕ) → Stands s m b o → s.told ≡ in_order → Gone s l m b o 0 s m b o
gone-none s l m b o h z =
    record {
      goes = record { stands = h; have = refl; there = omega arith; finds = λ more. refl };
      on = z;
      first = λ e. absurd (e refl);
      some = λ e. refl;
      same = λ e. (refl, refl, refl, refl);
    }

-- what is left, as it is lent
pub rest-is : (l : List ℕ) (at : ℕ) → take (length l - at) (drop at l) ≡ drop at l
rest-is l at = take_all (length l - at) (drop at l) (omega (arith, length-drop at l))

module _ {s : Stage} {l m b o : List ℕ} {at : ℕ} {t : Stage} {v c q : List ℕ} (g : Gone s l m b o at t v c q)
    {w : Went} {x y z : List ℕ} (lent : Steps t (take (length l - at) (drop at l)) v c q w x y z) where
  p : Steps t (drop at l) v c q w x y z
  p = subst (λ k. Steps t k v c q w x y z) (rest-is l at) lent

  goes-more : Goes s l m b o (record { taken = at + w.taken; stage = w.stage }) x y z
  goes-more =
      record {
        stands = p.goes.stands;
        have = p.goes.have ∙ g.goes.have;
        there = omega (arith, length-drop at l, p.goes.there, g.goes.there);
        finds = λ more. ap (λ k. found_in s m b o (k ++ more)) (take-add at w.taken l)
            ∙ ap (found_in s m b o) (append_assoc (take at l) (take w.taken (drop at l)) more)
            ∙ g.goes.finds (take w.taken (drop at l) ++ more) ∙ p.goes.finds more;
      }

  span-at : at ≡ 0 → w.taken ≡ span_of (entry_in l)
  span-at e = p.span ∙ ap (λ i. span_of (entry_in (drop i l))) e

  first_more : span_of (entry_in l) ≤ at + w.taken
  first_more = go (eqb at 0) refl
    where
      go : (k : Bool) → eqb at 0 ≡ k → span_of (entry_in l) ≤ at + w.taken
      go true e = omega (arith, span-at (eqb-true at 0 e))
      go false e = omega (arith, g.first (eqb-false at 0 e))

  some_more : span_of (entry_in l) ≡ 0 → at + w.taken ≡ 0
  some_more e = let a = g.some e in omega (arith, span-at a)

  pub runs-more : Runs s l m b o (record { taken = at + w.taken; stage = w.stage }) x y z
  runs-more =
      record {
        goes = goes-more;
        first = first_more;
        some = some_more;
        none = λ e.
            let a : at ≡ 0 = omega arith in
            let i : w.taken ≡ 0 = omega arith in
            let k = g.same a in
            let n = p.none i in
            record {
              part = ap (λ j. is_open (entry_in (drop j l))) (sym a) ∙ n.part;
              stage = n.stage ∙ k.0;
              words = n.words ∙ k.1;
              bytes = n.bytes ∙ k.2;
              due = n.due ∙ k.3;
            };
      }

  pub gone-more : (w.taken ≡ 0 → ⊥) → w.stage.told ≡ in_order → Gone s l m b o (at + w.taken) w.stage x y z
  gone-more i k =
      record {
        goes = goes-more;
        on = k;
        first = λ e. first_more;
        some = some_more;
        same = λ e. absurd (i (omega arith));
      }

  pub gone-there : at + w.taken ≤ length l
  gone-there = goes-more.there
