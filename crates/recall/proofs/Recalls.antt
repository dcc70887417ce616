-- 02, CR 12, the theorems between the definitions: `recalls-like-the-card` and `thirteen-exactly`.
-- Rests on Steps: one call.
use mathlib.Core.Path.{◌≡◌, refl, sym, subst, ap, ap₂, ◌∙◌}
use mathlib.Core.Bool.{Bool, true, false, cond}
use mathlib.Core.List.{List, [], ◌∷◌, ◌++◌, append_assoc, append-nil}
use Prim.Native.Nat.{ℕ, ◌-◌}
use lib.Dec.{eqb}
use lib.ListN.{length, take, replicate, take-append-drop}
use Rattle.rules.specs.declared.Refusal.{Refusal}
use Rattle.rules.specs.declared.Refusal.TheVariants.{NoConnection, NoRoom, ClockBack, Oversize, Short, AlreadyOpen, NotOpen, BadMicros}
use Rattle.rules.specs.declared.Refusal.TheVariants.{BadName, Counter, LongSection, BadSection, NotSixteen}
use Rattle.rules.specs.Lists.{All, put}
use Rattle.rules.specs.Bytes.{written}
use Rattle.rules.specs.State.{Splicer}
use Rattle.rules.specs.HouseNumbers.{Answer, refused, good, Called, house_number, written_by, buffer_after}
use Rattle.rules.specs.Calls.{Call, call, after}
use Rattle.rules.specs.Follows.Sound.{Wired}
use Rattle.rules.proofs.Tests.{by}
use Rattle.std.specs.Prelude.{Ok, Err}
use Rattle.recall_log.specs.declared.Refused.TheVariants.{Rule}
use Rattle.recall_log.specs.Log.{kept_calls, taken, log_length, other_length, full}
use Rattle.recall_log.specs.Kept.{Its, kept_form, recorded, is_good, Neat, number_of, reply_of, unmoved, cleared, log_after}
use Rattle.recall_log.proofs.Appends.{cleared-calls}
use Rattle.recall_log.proofs.Logs.{same_length, taken-recorded}
use Rattle.recall.specs.Recall.{begun, told_by, thirteen, recall_call, recall_fresh, recalls, log_left, before13, None13, card_tells}
use Rattle.recall.specs.Recall.{goods, spent, LikeTheCard}
use Rattle.recall.proofs.Steps.{Leads, leads-cleared, told_same, leads-on, calls-on}

-- ## From a log that leads to the splicer s

run-told : (ks : List Call) (l : List ℕ) (s : Splicer) → All Its ks → All Wired ks → Leads l s → None13 ks l
    → recalls ks l ≡ card_tells ks s
unfolding recalls card_tells
run-told [] l s i w h n = refl
run-told (k ∷ ks) l s i w h n =
    ap₂ (λ x y. x ∷ y) (told_same k l s i.0 w.0 h n.0)
    (run-told ks (recall_call k l).log (call k s).splicer i.1 w.1 (leads-on k l s i.0 w.0 h n.0) n.1)

run-leads : (ks : List Call) (l : List ℕ) (s : Splicer) → All Its ks → All Wired ks → Leads l s → None13 ks l
    → Leads (log_left ks l) (after ks s)
unfolding log_left after
run-leads [] l s i w h n = h
run-leads (k ∷ ks) l s i w h n =
    run-leads ks (recall_call k l).log (call k s).splicer i.1 w.1 (leads-on k l s i.0 w.0 h n.0) n.1

run-calls : (ks : List Call) (l : List ℕ) (s : Splicer) → All Its ks → All Wired ks → Leads l s → None13 ks l
    → kept_calls (log_left ks l) ≡ kept_calls l ++ goods ks s
unfolding log_left goods
run-calls [] l s i w h n = sym (append-nil (kept_calls l))
run-calls (k ∷ ks) l s i w h n =
    let g = goods ks (call k s).splicer in
    let b = is_good (call k s).answer in
    run-calls ks (recall_call k l).log (call k s).splicer i.1 w.1 (leads-on k l s i.0 w.0 h n.0) n.1
    ∙ ap (λ x. x ++ g) (calls-on k l s i.0 w.0 h n.0) ∙ append_assoc (kept_calls l) (put b (kept_form k) []) g
    ∙ ap (λ x. kept_calls l ++ x) (put-append b (kept_form k) g)
  where
    put-append : (b : Bool) (x : Call) (g : List Call) → put b x [] ++ g ≡ put b x g
    put-append true x g = refl
    put-append false x g = refl

-- ## From fresh

-- a neat log is the records of its calls and zeros
pub neat-is : (l : List ℕ) (ks : List Call) → Neat l → length l ≡ log_length → kept_calls l ≡ ks
    → l ≡ recorded ks ++ replicate (log_length - length (recorded ks)) 0
neat-is l ks n h e =
    let t : taken l ≡ length (recorded ks) = taken-recorded l ∙ ap (λ x. length (recorded x)) e in
    sym (take-append-drop (taken l) l)
    ∙ ap₂ ◌++◌ (n.records ∙ ap recorded e) (n.zeros ∙ ap (λ x. replicate x 0) (ap₂ ◌-◌ h t))

-- whether a log of that length is full can be counted from its calls
pub full-spent : (l : List ℕ) → length l ≡ log_length → full l ≡ spent (kept_calls l)
unfolding full spent
full-spent l h = rw (same_length l h, h, taken-recorded l)

module _ (l : List ℕ) (h : length l ≡ log_length) where
  -- the calls ks, none of which got 13
  module _ (ks : List Call) (i : All Its ks) (w : All Wired ks) (n : None13 ks (cleared l)) where
    leads : Leads (log_left ks (cleared l)) (after ks begun)
    leads = run-leads ks (cleared l) begun i w (leads-cleared l h) n

    good-calls : kept_calls (log_left ks (cleared l)) ≡ goods ks begun
    good-calls = run-calls ks (cleared l) begun i w (leads-cleared l h) n ∙ ap (λ x. x ++ goods ks begun) (cleared-calls l)

    like-the-card : LikeTheCard ks (cleared l)
    like-the-card =
        record {
          told = run-told ks (cleared l) begun i w (leads-cleared l h) n;
          calls = good-calls;
          bytes = neat-is (log_left ks (cleared l)) (goods ks begun) leads.neat leads.long good-calls;
        }

    pub full-is-spent : full (log_left ks (cleared l)) ≡ spent (goods ks begun)
    full-is-spent = full-spent (log_left ks (cleared l)) leads.long ∙ ap spent good-calls

-- ## The calls before the first 13, of any calls

before-none : (ks : List Call) (l : List ℕ) → None13 (before13 ks l) l
unfolding before13
before-none [] l = tt
before-none (k ∷ ks) l = go (full l) refl (before-none ks (recall_call k l).log)
  where
    go : (b : Bool) → full l ≡ b → None13 (before13 ks (recall_call k l).log) (recall_call k l).log
        → None13 (cond b [] (k ∷ before13 ks (recall_call k l).log)) l
    go true e r = tt
    go false e r = (e, r)

before-all : (P : Call → Type 0) (ks : List Call) (l : List ℕ) → All P ks → All P (before13 ks l)
unfolding before13
before-all P [] l a = tt
before-all P (k ∷ ks) l a =
    by (All P) (full l) [] (k ∷ before13 ks (recall_call k l).log) (λ e. tt) (λ e. (a.0, before-all P ks (recall_call k l).log a.1))

-- they are the first of them
pub before-first : (ks : List Call) (l : List ℕ) → before13 ks l ≡ take (length (before13 ks l)) ks
unfolding before13
before-first [] l = refl
before-first (k ∷ ks) l =
    by (λ x. x ≡ take (length x) (k ∷ ks)) (full l) [] (k ∷ before13 ks (recall_call k l).log) (λ e. refl)
    (λ e. ap (λ x. k ∷ x) (before-first ks (recall_call k l).log))

-- ## 13

-- no refusal of the rules has this number
number-other : (n : Refusal) → eqb (house_number n) 13 ≡ false
unfolding house_number
number-other NoConnection = refl
number-other NoRoom = refl
number-other ClockBack = refl
number-other Oversize = refl
number-other Short = refl
number-other AlreadyOpen = refl
number-other NotOpen = refl
number-other BadMicros = refl
number-other BadName = refl
number-other Counter = refl
number-other LongSection = refl
number-other BadSection = refl
number-other NotSixteen = refl

told-other : (k : Call) (s : Splicer) → eqb (number_of (told_by (call k s)).reply) 13 ≡ false
unfolding told_by reply_of number_of
told-other k s = go (call k s).answer
  where
    go : (a : Answer) → eqb (number_of (reply_of a (call k s).moved)) 13 ≡ false
    go (refused n) = number-other n
    go (good consumed rs) = refl

-- of any log
pub thirteen-of-any : (k : Call) (l : List ℕ) → eqb (number_of (recall_call k l).told.reply) 13 ≡ full l
unfolding recall_call number_of
thirteen-of-any k l = go (full l)
  where
    go : (b : Bool)
        → eqb (number_of (cond b (thirteen l)
        (record {
          told = told_by (call k (after (kept_calls l) begun));
          log =
              log_after k (call k (after (kept_calls l) begun)).answer l;
        })).told.reply) 13 ≡ b
    go true = refl
    go false = told-other k (after (kept_calls l) begun)

-- for fresh only the length counts
pub thirteen-of-fresh : (l : List ℕ) → eqb (number_of (recall_fresh l).told.reply) 13 ≡ other_length l
unfolding recall_fresh number_of
thirteen-of-fresh l = go (other_length l)
  where
    go : (b : Bool)
        → eqb (number_of (cond b (thirteen l) (record {
          told = record { reply = Ok (unmoved 0); shows = [] };
          log =
              cleared l;
        })).told.reply) 13 ≡ b
    go true = refl
    go false = refl

-- nothing changes, and nothing is written
pub thirteen-leaves : (k : Call) (l : List ℕ) → full l ≡ true → recall_call k l ≡ thirteen l
unfolding recall_call
thirteen-leaves k l e = rw e

pub fresh-leaves : (l : List ℕ) → other_length l ≡ true → recall_fresh l ≡ thirteen l
unfolding recall_fresh
fresh-leaves l e = rw e

-- a refused call is not kept and leaves the log as it was
pub refused-leaves : (k : Call) (l : List ℕ) (n : Refusal) → (recall_call k l).told.reply ≡ Err (Rule n)
    → ((recall_call k l).log ≡ l) × ((recall_call k l).told.shows ≡ [])
unfolding recall_call told_by reply_of log_after written_by
refused-leaves k l n = go (full l) (call k (after (kept_calls l) begun)).answer
  where
    go : (b : Bool) (a : Answer)
        → (cond b (thirteen l) (record {
          told = record {
            reply = reply_of a (call k (after (kept_calls l) begun)).moved;
            shows =
                written_by a;
          };
          log = log_after k a l;
        })).told.reply ≡ Err (Rule n)
        → ((cond b (thirteen l) (record {
          told = record {
            reply = reply_of a (call k (after (kept_calls l) begun)).moved;
            shows =
                written_by a;
          };
          log = log_after k a l;
        })).log ≡ l)
        × ((cond b (thirteen l) (record {
          told = record {
            reply = reply_of a (call k (after (kept_calls l) begun)).moved;
            shows =
                written_by a;
          };
          log = log_after k a l;
        })).told.shows ≡ [])
    go true a e = (refl, refl)
    go false (refused m) e = (refl, refl)
    go false (good consumed rs) e = absurd cc

-- ## The theorems

pub fresh-log : (l : List ℕ) → length l ≡ log_length → (recall_fresh l).log ≡ cleared l
unfolding recall_fresh
fresh-log l h = rw (same_length l h)

-- "Until it first refuses with 13, the log unchanged between calls, it is proved to answer like the card's engine, byte for byte": any
-- calls
-- from its fresh, each handed the log that the last one left
pub recalls-like-the-card : (l : List ℕ) → length l ≡ log_length → (ks : List Call) → All Its ks → All Wired ks
    → LikeTheCard (before13 ks (recall_fresh l).log) (recall_fresh l).log
recalls-like-the-card l h ks i w =
    let c = cleared l in
    subst (λ x. LikeTheCard (before13 ks x) x) (sym (fresh-log l h))
    (like-the-card l h (before13 ks c) (before-all Its ks c i) (before-all Wired ks c w) (before-none ks c))

-- what is told of a call says what its buffer holds, which held e
pub told-buffer : (c : Called) (e : List ℕ) → written e 0 (told_by c).shows ≡ buffer_after c.answer e
unfolding buffer_after told_by
told-buffer c e = refl

-- the next call gets 13 exactly when the good ones of the calls before it have spent the log
pub thirteen-exactly : (l : List ℕ) → length l ≡ log_length → (ks : List Call) → All Its ks → All Wired ks → None13 ks (recall_fresh l).log
    → (k : Call) → eqb (number_of (recall_call k (log_left ks (recall_fresh l).log)).told.reply) 13 ≡ spent (goods ks begun)
thirteen-exactly l h ks i w n k =
    thirteen-of-any k (log_left ks (recall_fresh l).log)
    ∙ ap (λ x. full (log_left ks x)) (fresh-log l h) ∙ full-is-spent l h ks i w (subst (None13 ks) (fresh-log l h) n)
