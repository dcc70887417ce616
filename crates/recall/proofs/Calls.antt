-- What the code works out from the verdicts of the kept calls is what the definition answers. Rests on `answers-like-the-rules`: over any
-- calls from fresh, 01 over verdicts answers as 01.
use mathlib.Core.Path.{◌≡◌, refl, sym, subst, ap, ap₂, ◌∙◌}
use mathlib.Core.Bool.{Bool, true, false, cond}
use mathlib.Core.List.{List, []}
use Prim.Native.Nat.{ℕ}
use native.Mathlib.Omega.{arith}
use Rattle.rules.specs.Lists.{All}
use Rattle.rules.specs.Follows.Wires.{Byte}
use Rattle.rules.specs.Bytes.{padded, written}
use Rattle.rules.specs.Card.{card_name}
use Rattle.rules.specs.Calls as rules
use Rattle.rules.specs.HouseNumbers.{Answer, refused, good, written_by, buffer_after}
use Rattle.rules.specs.Calls.{Call, opens, closes, ticks}
use Rattle.rules.proofs.Bytes.{padded-byte}
use Rattle.rules.proofs.Written.{written_none}
use Rattle.std.specs.Prelude.{Option, None, Some, Result, Ok, Err}
use Rattle.std.specs.Option.{ok_or}
use Rattle.std.proofs.lemmas.Option.{none-some, same_Some}
use Rattle.rules.specs.declared.Refusal.{Refusal}
use Rattle.recall_log.specs.declared.Refused.{Refused}
use Rattle.recall_log.specs.declared.Refused.TheVariants.{Full, Rule}
use Rattle.recall_log.specs.Log.{kept_calls, taken, full, other_length}
use Rattle.reply.specs.declared.Did.{Did}
use Rattle.recall_log.specs.Kept.{Reply, Good, kept_form, reply_of, unmoved, appended, cleared, log_after, space_in, Behind}
use Rattle.recall_log.proofs.Logs.{place-behind, any-log}
use Rattle.recall_rules.specs.Calls.{Pass, Called, open_call, close_call, tick_call, call, begun, passed}
use Rattle.recall_rules.proofs.Calls.{SameCalled}
use Rattle.recall_rules.proofs.Twice.{answers-like-the-rules}
use Rattle.recall_answers.specs.declared.Carried.{Carried}
use Rattle.recall_pass.specs.declared.Played.{Played}
use Rattle.recall_pass.specs.Passes.{pass_in, replied, Plays, Passed}
use Rattle.recall.specs.Finish.{FindsPlace, Begins}
use Rattle.recall.specs.Recall as recall
use Rattle.recall.specs.Recall.{recall_call, recall_fresh, Recalled, told_by, Remembers, Forgets}
use Rattle.recall.proofs.Recalls.{thirteen-leaves, fresh-leaves}

-- ## 13, and fresh

pub remembers-full : (k : Call) (l e : List ℕ) → full l ≡ true → Remembers k l e (Err Full) l e
remembers-full k l e f =
    let g = sym (thirteen-leaves k l f) in
    record {
      reply = ap (λ (x : Recalled). x.told.reply) g;
      log = ap (λ (x : Recalled). x.log) g;
      buffer = sym (written_none e 0) ∙ ap (λ (x : Recalled). written e 0 x.told.shows) g;
    }

pub forgets-full : (l : List ℕ) → other_length l ≡ true → Forgets l (Err Full) l
forgets-full l f =
    let g = sym (fresh-leaves l f) in
    record { reply = ap (λ (x : Recalled). x.told.reply) g; log = ap (λ (x : Recalled). x.log) g }

fresh-clears : (l : List ℕ) → other_length l ≡ false → recall_fresh l ≡ record
    { told = record { reply = Ok (unmoved 0); shows = [] }; log = cleared l }
unfolding recall_fresh
fresh-clears l f = rw f

pub forgets-all : {l n : List ℕ} {d : Did} → other_length l ≡ false → d ≡ unmoved 0 → n ≡ cleared l → Forgets l (Ok d) n
forgets-all {l} {n} f q e =
    let g = sym (fresh-clears l f) in
    record { reply = ap (λ (x : Did). Ok x) q ∙ ap (λ (x : Recalled). x.told.reply) g; log = e ∙ ap (λ (x : Recalled). x.log) g }

-- any two results that a promise allows are equal
pub remembers-same : (k : Call) (l e : List ℕ) {r r' : Reply} {n n' o o' : List ℕ} → Remembers k l e r n o → Remembers k l e r' n' o'
    → (r ≡ r') × (n ≡ n') × (o ≡ o')
remembers-same k l e a b = (a.reply ∙ sym b.reply, a.log ∙ sym b.log, a.buffer ∙ sym b.buffer)

pub forgets-same : (l : List ℕ) {r r' : Reply} {n n' : List ℕ} → Forgets l r n → Forgets l r' n' → (r ≡ r') × (n ≡ n')
forgets-same l a b = (a.reply ∙ sym b.reply, a.log ∙ sym b.log)

-- ## Whether a call is kept

err_no_ok : {A B : Type 0} {x : A} {n : B} → ◌≡◌ {A = Result A B} (Err n) (Ok x) → ⊥
err_no_ok e = absurd cc

is-kept : (k : Call) (a : Answer) (n : ℕ) (l : List ℕ) {x : Did} → reply_of a n ≡ Ok x
    → Good a × (log_after k a l ≡ appended (kept_form k) l)
unfolding reply_of log_after
is-kept k (refused m) n l e = absurd (err_no_ok e)
is-kept k (good consumed rs) n l e = (tt, refl)

not-kept : (k : Call) (a : Answer) (n : ℕ) (l : List ℕ) → ((x : Did) → reply_of a n ≡ Ok x → ⊥) → log_after k a l ≡ l
unfolding reply_of log_after
not-kept k (refused m) n l t = refl
not-kept k (good consumed rs) n l t = absurd (t _ refl)

-- ## A call of a log that is not full, in the state that its calls lead to

module _ (k : Call) (l : List ℕ) (b : All Byte l) (f : full l ≡ false) where
  -- as the verdicts give it
  abbrev worked : Answer
  worked = (call k (passed (kept_calls l) (begun card_name))).answer

  abbrev shifts : ℕ
  shifts = (call k (passed (kept_calls l) (begun card_name))).moved

  same : SameCalled (call k (passed (kept_calls l) (begun card_name))) (rules.call k (rules.after (kept_calls l) recall.begun))
  unfolding recall.begun card_name
  same = answers-like-the-rules (padded card_name) refl (padded-byte card_name (omega arith, (omega arith, (omega arith, tt)))) refl
      (kept_calls l) (any-log l b).0 k

  is : recall_call k l ≡ record { told = record { reply = reply_of worked shifts; shows = written_by worked }; log = log_after k worked l }
  unfolding recall_call told_by
  is =
      rw f
      (ap₂ (λ (a : Answer) (n : ℕ). record { told = record { reply = reply_of a n; shows = written_by a }; log = log_after k a l })
      (sym same.answer) (sym same.moved))

  -- the call c was worked out, and the reply r says so
  module _ {c : Called} (made : c ≡ call k (passed (kept_calls l) (begun card_name))) {r : Reply} (told : r ≡ reply_of c.answer c.moved)
    where
      answer-is : c.answer ≡ worked
      answer-is = ap (λ (x : Called). x.answer) made

      -- the log and the buffer are what the answer makes of them
      pub remembers : {n e o : List ℕ} → n ≡ log_after k c.answer l → o ≡ buffer_after c.answer e → Remembers k l e r n o
      unfolding buffer_after
      remembers {n} {e} {o} h i =
          record {
            reply = told ∙ ap (λ (x : Called). reply_of x.answer x.moved) made ∙ ap (λ (x : Recalled). x.told.reply) (sym is);
            log = h ∙ ap (λ (x : Answer). log_after k x l) answer-is ∙ ap (λ (x : Recalled). x.log) (sym is);
            buffer = i ∙ ap (λ (x : Answer). written e 0 (written_by x)) answer-is
                ∙ ap (λ (x : Recalled). written e 0 x.told.shows) (sym is);
          }

      -- a refused call is not kept
      pub remembers-not : ((x : Did) → r ≡ Ok x → ⊥) → {e o : List ℕ} → o ≡ buffer_after c.answer e → Remembers k l e r l o
      remembers-not t i = remembers (sym (not-kept k c.answer c.moved l
          (subst (λ (x : Reply). (y : Did) → x ≡ Ok y → ⊥) told t))) i

      -- a good one is
      module _ {x : Did} (d : r ≡ Ok x) where
        pub remembers-done : {n e o : List ℕ} → n ≡ appended (kept_form k) l → o ≡ buffer_after c.answer e → Remembers k l e r n o
        remembers-done {n} h i = remembers (h ∙ sym (is-kept k c.answer c.moved l (sym told ∙ d)).1) i

        pub good-there : Good (rules.call k (rules.after (kept_calls l) recall.begun)).answer
        good-there = subst Good (answer-is ∙ same.answer) (is-kept k c.answer c.moved l (sym told ∙ d)).0

-- ## The place for its record

pub space-none : (l : List ℕ) → space_in l ≡ None → full l ≡ true
unfolding space_in
space-none l = go (full l)
  where
    go : (x : Bool) → cond x None (Some (taken l)) ≡ None → x ≡ true
    go true e = refl
    go false e = absurd (none-some (taken l) (sym e))

pub space-from : (l : List ℕ) {at : ℕ} → space_in l ≡ Some at → (full l ≡ false) × Behind l at
unfolding space_in
space-from l {at} = go (full l) refl
  where
    go : (x : Bool) → full l ≡ x → cond x None (Some (taken l)) ≡ Some at → (full l ≡ false) × Behind l at
    go true f e = absurd (none-some at e)
    go false f e = (f, subst (Behind l) (same_Some (taken l) at e) (place-behind l f))

-- what is made of it
pub place-none : (o : Option ℕ) {n : Refused} → ok_or o Full ≡ Err n → (o ≡ None) × (n ≡ Full)
place-none None e = (refl, cc)
place-none (Some x) e = absurd (err_no_ok (sym e))

pub place-some : (o : Option ℕ) {at : ℕ} → ok_or o Full ≡ Ok at → o ≡ Some at
place-some None e = absurd (err_no_ok e)
place-some (Some x) e = cc

pub begins : (l : List ℕ) (o : Option ℕ) → o ≡ space_in l → FindsPlace l (ok_or o Full)
begins l o e = go (ok_or o Full) refl
  where
    go : (r : Result ℕ Refused) → ok_or o Full ≡ r → FindsPlace l r
    go (Err n) i = let p = place-none o i in (space-none l (sym e ∙ p.0), p.1)
    go (Ok at) i = space-from l (sym e ∙ place-some o i)

-- 13, or the place and what the pass carries
pub begun-full : (k : Call) (l e m : List ℕ) {r : Result (ℕ × Carried) Refused} {n : Refused} → Begins l r m → r ≡ Err n
    → Remembers k l e (Err n) l e
begun-full k l e m b i =
    let a = subst (λ x. Begins l x m) i b in
    subst (λ x. Remembers k l e (Err x) l e) (sym a.1) (remembers-full k l e a.0)

pub begun-there : (l m : List ℕ) {r : Result (ℕ × Carried) Refused} {p : ℕ × Carried} → Begins l r m → r ≡ Ok p
    → (full l ≡ false) × Behind l p.0 × Passed l p.1 m
begun-there l m b i = subst (λ x. Begins l x m) i b

-- what `begin` gives
pub found-full : (k : Call) (l e : List ℕ) {r : Result ℕ Refused} {n : Refused} → FindsPlace l r → r ≡ Err n
    → Remembers k l e (Err n) l e
found-full k l e {n = n} b i = begun-full k l e [] {r = Err n} (subst (FindsPlace l) i b) refl

pub found-there : (l : List ℕ) {r : Result ℕ Refused} {at : ℕ} → FindsPlace l r → r ≡ Ok at → (full l ≡ false) × Behind l at
found-there l b i = subst (FindsPlace l) i b

-- and the pass behind it
pub begins-with : (l : List ℕ) {r : Result ℕ Refused} {at : ℕ} {h : Carried} {m : List ℕ} → FindsPlace l r → r ≡ Ok at
    → Passed l h m → Begins l (Ok (at, h)) m
begins-with l b i p = let f = found-there l b i in (f.0, f.1, p)

-- ## A call that was played behind all kept ones

module _ (k : Call) (l : List ℕ) (b : All Byte l) (f : full l ≡ false) {h : Carried} {m : List ℕ} (p : Passed l h m) {g : Pass → Called}
    (is_call : (s : Pass) → g s ≡ call k s)
    {q : Result Played Refusal} {e j o : List ℕ} (y : Plays l h (g (pass_in l h m)) e q j o) where
  played-made : g (pass_in l h m) ≡ call k (passed (kept_calls l) (begun card_name))
  played-made = is_call (pass_in l h m) ∙ ap (call k) p.pass

  pub played-not : {n : Refusal} → q ≡ Err n → Remembers k l e (Err (Rule n)) l o
  unfolding replied
  played-not d = remembers-not k l b f played-made (ap replied (sym d) ∙ y.reply) (λ x z. err_no_ok z) y.buffer

  module _ {x : Played} (d : q ≡ Ok x) where
    told_is : Ok x.did ≡ reply_of (g (pass_in l h m)).answer (g (pass_in l h m)).moved
    unfolding replied
    told_is = ap replied (sym d) ∙ y.reply

    pub played-done : {n : List ℕ} → n ≡ appended (kept_form k) l → Remembers k l e (Ok x.did) n o
    played-done i = remembers-done k l b f played-made told_is refl i y.buffer

    pub played-good : Good (rules.call k (rules.after (kept_calls l) recall.begun)).answer
    played-good = good-there k l b f played-made told_is refl

pub open_is : (c : ℕ) (s : Pass) → open_call c s ≡ call (opens c) s
unfolding call
open_is c s = refl

pub close-is : (c room : ℕ) (s : Pass) → close_call c room s ≡ call (closes c room) s
unfolding call
close-is c room s = refl

pub tick_is : (seconds micros room : ℕ) (s : Pass) → tick_call seconds micros room s ≡ call (ticks seconds micros room) s
unfolding call
tick_is seconds micros room s = refl
