-- One rule, two ways: each piece of 01's work over verdicts does what it does over the two ordered lists, and so does every call.
-- Assumes only what holds of every splicer that fresh and the calls since have given.
use mathlib.Core.Path.{◌≡◌}
use mathlib.Core.List.{List}
use Prim.Native.Nat.{ℕ}
use mathlib.Core.Bool.{true, false}
use lib.Dec.{eqb}
use lib.ListN.{length}
use Rattle.rules.specs.declared.Session.{Session}
use Rattle.rules.specs.declared.Request.{Request}
use Rattle.rules.specs.Lists.{All}
use Rattle.rules.specs.Follows.Wires.{Byte}
use Rattle.rules.specs.Bytes.{has_zero, name_in}
use Rattle.rules.specs.Request.{nobody}
use Rattle.rules.specs.State as state
use Rattle.rules.specs.State.{Queue}
use Rattle.rules.specs.Ends as ends
use Rattle.rules.specs.Instants as instants
use Rattle.rules.specs.Answers as answers
use Rattle.rules.specs.Splicing as splicing
use Rattle.rules.specs.Calls as calls
use Rattle.rules.specs.Calls.{Call}
use Rattle.rules.specs.Follows.Sound.{Holding, Wired}
use Rattle.rules.proofs.Sound.{sound-fresh, sound-always}
use Rattle.recall_rules.specs.Verdicts.{Verdict, Shows}
use Rattle.recall_rules.specs.Work.{dismissed, evicted, aborted, closed_by, start_at, end_at, instant, elapse, due, run_all, requested}
use Rattle.recall_rules.specs.Work.{wrong_number, collides, full, accepted, later, answer_splice, answer_abort, air_state, air_id, air_feed}
use Rattle.recall_rules.specs.Work.{extended_response}
use Rattle.recall_rules.specs.Calls.{call, begun, passed}
use Rattle.recall_rules.proofs.Ends.{SameTurn, fit, dismissed-same, evicted-same, aborted-same, closed_by-same}
use Rattle.recall_rules.proofs.Instants.{start_at-same, end_at-same, instant-same, elapse-same, due-same, run_all-same}
use Rattle.recall_rules.proofs.Answers.{requested-same, number_same, collides-same, full-same, accepted-same, later_same}
use Rattle.recall_rules.proofs.Answers.{SameSpliced, splice-same, abort-same, alive-same, extended-same}
use Rattle.recall_rules.proofs.Calls.{SameState, SameCalled, call_same, pass_same, begun-same}

-- where verdicts l show the sessions q, at the time now
pub record TwoWays (now : ℕ) (l : List Verdict) (q : Queue) : Type 0 where
  -- followers, link by link
  pub walking : (r c x : ℕ) → eqb x nobody ≡ false → SameTurn (dismissed r c x l) (ends.dismissed r c x q)
  pub evicting : (t : ℕ) → SameTurn (evicted t l) (ends.evicted t q)
  pub aborting : (c x : ℕ) → state.holds c x q ≡ true → SameTurn (aborted c x l) (ends.aborted c x q)
  pub closing : (c : ℕ) → SameTurn (closed_by c l) (ends.closed_by c q)
  -- a start, with 02's equal one; the ends at an instant; both
  pub starting : (t : ℕ) → SameTurn (start_at t l) (instants.start_at t q)
  pub ending : (t : ℕ) → SameTurn (end_at t l) (instants.end_at t q)
  pub working : (t : ℕ) → SameTurn (instant t l) (instants.instant t q)
  -- the time on air, the next instant, a tick
  pub elapsing : (d : ℕ) → Shows (elapse d l) (instants.elapse d q)
  pub next : due l ≡ state.due q
  pub ticking : (until : ℕ) → SameTurn (run_all now until l) (instants.run_all now until q)
  -- the session asked for, checks b, d and e (c looks at the clock and the request alone), f, 02's CR 11
  pub asking : (c : ℕ) (r : Request) → requested c r l ≡ splicing.requested c r q
  pub numbering : (c : ℕ) (r : Request) → wrong_number c r l ≡ splicing.wrong_number c r q
  pub colliding : (s : Session) → collides s l ≡ splicing.collides s q.waiting
  pub filling : (c : ℕ) → full c l ≡ splicing.full c q.waiting
  pub accepting : (s : Session) → SameTurn (accepted s l) (splicing.accepted s q)
  pub shifting : (s : Session) → later s l ≡ splicing.later s q
  -- the answers
  pub splicing : (clock c : ℕ) (r : Request) → SameSpliced (answer_splice clock c r l) (splicing.answer_splice clock c r q)
  pub ceasing : (c x : ℕ) → SameTurn (answer_abort c x l) (answers.answer_abort c x q)
  pub airing : (air_state l ≡ answers.air_state q.started) × (air_id l ≡ answers.air_id q.started) ×
      (air_feed l ≡ answers.air_feed q.started)
  -- 02, CR 8
  pub recalling : (c x : ℕ) → extended_response c x l ≡ answers.extended_response c x q

pub one-rule-two-ways : (now : ℕ) (l : List Verdict) (q : Queue) → Shows l q → Holding now q → TwoWays now l q
one-rule-two-ways now l q e h =
    let f = fit h in
    record {
      walking = λ r c x z. dismissed-same r c x l q e f.orderly z;
      evicting = λ t. evicted-same t l q e f.sorted f.orderly;
      aborting = λ c x g. aborted-same c x l q e f h.proper g;
      closing = λ c. closed_by-same c l q e f;
      starting = λ t. start_at-same t l q e f h.proper.started;
      ending = λ t. end_at-same t l q e f.falling;
      working = λ t. instant-same t l q e f h.proper.started;
      elapsing = λ d. elapse-same d l q e f.falling;
      next = due-same l q e;
      ticking = λ until. run_all-same now until l q e h;
      asking = λ c r. requested-same l q e h.once c r;
      numbering = λ c r. number_same l q e c r;
      colliding = λ s. collides-same l q e s;
      filling = λ c. full-same l q e c;
      accepting = λ s. accepted-same s l q e f;
      shifting = λ s. later_same s l q e f;
      splicing = λ clock c r. splice-same now l q e h clock c r;
      ceasing = λ c x. abort-same now l q e h c x;
      airing = alive-same now l q e h;
      recalling = λ c x. extended-same now l q e h c x;
    }

-- ## From fresh, over any calls: the next call is answered as the splicer that they lead to answers it, and its verdicts show the splicer
-- after it

module _ (name : List ℕ) (whole : length name ≡ 32) (bytes : All Byte name) (named : has_zero name ≡ true) (ks : List Call)
    (wired : All Wired ks) where
  pub passed-like-the-rules : SameState (passed ks (begun (name_in name))) (calls.after ks (calls.fresh name).splicer)
  unfolding calls.fresh
  passed-like-the-rules = rw named (pass_same ks (begun (name_in name)) (calls.named (name_in name)) wired (begun-same (name_in name))
      (rw named at (sound-fresh name whole bytes)))

  pub answers-like-the-rules : (k : Call) → SameCalled (call k (passed ks (begun (name_in name))))
      (calls.call k (calls.after ks (calls.fresh name).splicer))
  answers-like-the-rules k = call_same k _ _ passed-like-the-rules (sound-always ks name whole bytes wired)
