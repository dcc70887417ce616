-- One call: with a log whose calls lead to the card's splicer, both tell the same, and the log after it leads to the card's splicer after
-- it.
-- Rests on recall_log's laws of an appended log, and on: a good call and what is kept of it are one call.
use mathlib.Core.Path.{◌≡◌, refl, sym, subst, ap, ◌∙◌}
use mathlib.Core.Bool.{false}
use mathlib.Core.List.{List, [], ◌++◌, append-nil}
use Prim.Native.Nat.{ℕ}
use lib.ListN.{length}
use Rattle.rules.specs.Lists.{put}
use Rattle.rules.specs.State.{Splicer}
use Rattle.rules.specs.HouseNumbers.{Answer, refused, good}
use Rattle.rules.specs.Calls.{Call, call, after}
use Rattle.rules.specs.Follows.Sound.{Wired}
use Rattle.rules.proofs.Refused.{unchanged}
use Rattle.rules.proofs.Sound.{after_last}
use Rattle.recall_log.specs.Log.{kept_calls, log_length, full}
use Rattle.recall_log.specs.Kept.{Its, kept_form, is_good, Good, Neat, appended, cleared, log_after}
use Rattle.recall_log.proofs.Appends.{Keepable, appended-calls, cleared-calls, cleared-length}
use Rattle.recall_log.proofs.Keeps.{kept-stands, keepable}
use Rattle.recall_log.proofs.Logs.{not_full, record-fits, kept-long, neat-cleared, neat-appended}
use Rattle.recall.specs.Recall.{begun, told_by, recall_call}

-- the log l, as this engine leaves it, leads to the splicer s
pub record Leads (l : List ℕ) (s : Splicer) : Type 0 where
  pub long : length l ≡ log_length
  pub neat : Neat l
  pub state : after (kept_calls l) begun ≡ s

-- fresh
pub leads-cleared : (l : List ℕ) → length l ≡ log_length → Leads (cleared l) begun
unfolding after
leads-cleared l h =
    record { long = cleared-length l ∙ h; neat = neat-cleared l; state = ap (λ ks. after ks begun) (cleared-calls l) }

-- the call k of a log that is not full
module _ (k : Call) (l : List ℕ) (s : Splicer) (i : Its k) (w : Wired k) (h : Leads l s) (f : full l ≡ false) where
  pub told_same : (recall_call k l).told ≡ told_by (call k s)
  unfolding recall_call
  told_same = rw f (ap (λ x. told_by (call k x)) h.state)

  log_is : (recall_call k l).log ≡ log_after k (call k s).answer l
  unfolding recall_call
  log_is = rw f (ap (λ x. log_after k (call k x).answer l) h.state)

  -- it was good
  module _ (g : Good (call k s).answer) where
    can : Keepable (kept_form k)
    can = keepable k s i w g

    leads-kept : Leads (appended (kept_form k) l) (call k s).splicer
    leads-kept =
        let r = not_full l f in
        record {
          long = kept-long (kept_form k) can l r;
          neat = neat-appended (kept_form k) l can (record-fits (kept_form k) can l r) h.neat;
          state =
              ap (λ ks. after ks begun) (appended-calls (kept_form k) can l) ∙ after_last (kept_calls l) (kept_form k) begun
              ∙ ap (λ x. (call (kept_form k) x).splicer) h.state ∙ (kept-stands k s g).splicer;
        }

  pub leads-on : Leads (recall_call k l).log (call k s).splicer
  unfolding log_after
  leads-on = subst (λ x. Leads x (call k s).splicer) (sym log_is) (go (call k s).answer refl)
    where
      go : (a : Answer) → (call k s).answer ≡ a → Leads (log_after k a l) (call k s).splicer
      go (refused n) e = subst (Leads l) (sym (unchanged s k n e)) h
      go (good consumed rs) e = leads-kept (subst Good (sym e) tt)

  -- the calls in the log are those before, and this one if it is good
  pub calls-on : kept_calls (recall_call k l).log ≡ kept_calls l ++ put (is_good (call k s).answer) (kept_form k) []
  unfolding log_after
  calls-on = ap kept_calls log_is ∙ go (call k s).answer refl
    where
      go : (a : Answer) → (call k s).answer ≡ a → kept_calls (log_after k a l) ≡ kept_calls l ++ put (is_good a) (kept_form k) []
      go (refused n) e = sym (append-nil (kept_calls l))
      go (good consumed rs) e = appended-calls (kept_form k) (can (subst Good (sym e) tt)) l
