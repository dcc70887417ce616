-- Checks b to f, acceptance and the answers to a Splice_Request, an abort and an alive request over verdicts are those of the two
-- ordered lists. Assumes nothing.
use mathlib.Core.Path.{◌≡◌, refl, sym, ap, ap₂, fun_ext, ◌∙◌}
use mathlib.Core.Bool.{Bool, true, false, not, ◌&&◌, ◌||◌}
use mathlib.Core.List.{List, [], ◌∷◌, ◌++◌}
use Prim.Native.Nat.{ℕ}
use native.Mathlib.Omega.{arith}
use lib.Dec.{eqb, ltb}
use lib.ListN.{length, get_or, get_or-eq_default}
use borrow.Author.Tests.{ltb-true, ltb-false, lt-ltb, le-ltb}
use Rattle.rules.specs.declared.Session.{Session}
use Rattle.rules.specs.declared.Start.{Start}
use Rattle.rules.specs.declared.Start.TheVariants.{Timed, Linked}
use Rattle.rules.specs.declared.Request.{Request}
use Rattle.rules.specs.declared.Past.{Past}
use Rattle.rules.specs.Lists.{place}
use Rattle.rules.specs.Request.{nobody}
use Rattle.rules.specs.State as state
use Rattle.rules.specs.State.{Queue, empty, of, is, starts_at, starts_after, held, with_waiting}
use Rattle.rules.specs.Ends as ends
use Rattle.rules.specs.Instants.{outranks}
use Rattle.rules.specs.Answers as answers
use Rattle.rules.specs.Splicing as splicing
use Rattle.rules.specs.Splicing.{session_at, full_by, inserted}
use Rattle.rules.specs.Answers.{latest, recalls}
use Rattle.rules.specs.Follows.Sound.{Once, Falling, Holding}
use Rattle.rules.proofs.Count.{count-insert_at, count-append}
use Rattle.recall_rules.specs.Verdicts.{Waits, is_waiting, has_started, is_held, Verdict, none, verdict, standing, which, session_of}
use Rattle.recall_rules.specs.Verdicts.{Same, Shows}
use Rattle.recall_rules.specs.Work.{aborted, airs, on_air, holds, start_of, requested, unknown_prior, wrong_number, collides, full}
use Rattle.recall_rules.specs.Work.{splice_result, accepted, Spliced, later, answer_splice, answer_abort, air_state, air_id, air_feed}
use Rattle.recall_rules.specs.Work.{extended_response}
use Rattle.recall_rules.proofs.Same.{same_some}
use Rattle.recall_rules.proofs.Found.{count-appended, found, same, shows-held}
use Rattle.recall_rules.proofs.Lately.{more-append, kept_same, recent-same}
use Rattle.recall_rules.proofs.Ends.{SameTurn, then_same, chosen, Fit, fit, evicted-same, aborted-same}
use Rattle.recall_rules.proofs.Instants.{top-place, top_one}

module _ (l : List Verdict) (q : Queue) (e : Shows l q) where
  -- ## Checks b to e

  pub holds_same : (c x : ℕ) → holds c x l ≡ state.holds c x q
  holds_same c x = same_some (is c x) (standing is_held l) (held q) (shows-held l q e)

  unknown-same : (c : ℕ) (f : Start) → unknown_prior c f l ≡ splicing.unknown_prior c f q
  unfolding unknown_prior splicing.unknown_prior
  unknown-same c (Timed t) = refl
  unknown-same c (Linked p) = ap not (holds_same c p)

  pub number_same : (c : ℕ) (r : Request) → wrong_number c r l ≡ splicing.wrong_number c r q
  unfolding wrong_number
  number_same c r = ap₂ (λ a b. eqb r.id nobody || (a || b)) (holds_same c r.id) (unknown-same c r.start)

  pub collides-same : (new : Session) → collides new l ≡ splicing.collides new q.waiting
  unfolding collides splicing.collides
  collides-same new = same_some (λ s. starts_at new.start.0 s && not (outranks new s)) (standing is_waiting l) q.waiting e.waiting

  pub full-same : (c : ℕ) → full c l ≡ splicing.full c q.waiting
  unfolding full splicing.full
  full-same c =
      ap (λ (n : ℕ → ℕ). full_by n c) (fun_ext (λ d. e.waiting (of d)))

  result-same : (clock c : ℕ) (r : Request) (new : Session) → splice_result clock c r new l ≡ splicing.splice_result clock c r new q
  unfolding splice_result splicing.splice_result
  result-same clock c r new = rw (number_same c r, collides-same new, full-same c)

  -- ## The session asked for

  start-same : Once q → (c : ℕ) (f : Start) → start_of c f l ≡ splicing.start_of c f q
  unfolding start_of splicing.start_of
  start-same o c (Timed t) = refl
  start-same o c (Linked p) = ap (λ (s : Session). s.end.0) (go (ltb (which is_held (is c p) l) (length l)) refl)
    where
      h : Same (standing is_held l) (held q)
      h = shows-held l q e

      go : (b : Bool) → ltb (which is_held (is c p) l) (length l) ≡ b → session_of l (which is_held (is c p) l)
          ≡ get_or (held q) (place (is c p) (held q)) empty
      go true f = sym (same is_held (is c p) l (held q) h (omega (arith, o c p, count-append (is c p) q.waiting q.started))
          (ltb-true (which is_held (is c p) l) (length l) f))
      go false f =
          ap (λ (v : Verdict). v.session) (get_or-eq_default l none (ltb-false (which is_held (is c p) l) (length l) f))
          ∙ sym (get_or-eq_default (held q) empty (ltb-false (place (is c p) (held q)) (length (held q))
          (sym (found is_held (is c p) l (held q) h) ∙ f)))

  pub requested-same : Once q → (c : ℕ) (r : Request) → requested c r l ≡ splicing.requested c r q
  unfolding requested splicing.requested
  requested-same o c r = ap (λ t. session_at t c r) (start-same o c r.start)

-- ## f: the new call's verdict stands behind the others

appended-same : (s : Session) (l : List Verdict) (q : Queue) → Shows l q
    → Shows (l ++ (verdict Waits s ∷ [])) (with_waiting (inserted s q.waiting) q)
unfolding inserted
appended-same s l q e =
    let a = more-append l (verdict Waits s) refl e.numbered in
    record {
      waiting = λ r. omega (
        arith,
        count-appended is_waiting r l (verdict Waits s),
        e.waiting r,
        count-insert_at r (place (starts_after s.start.0) q.waiting) s q.waiting,
      );
      started = λ r. omega (arith, count-appended has_started r l (verdict Waits s), e.started r);
      lately = kept_same l _ q e a;
      numbered = a.numbered;
    }

pub accepted-same : (s : Session) (l : List Verdict) (q : Queue) → Shows l q → Fit q → SameTurn (accepted s l) (splicing.accepted s q)
unfolding accepted splicing.accepted
accepted-same s l q e f =
    let a = evicted-same s.start.0 l q e f.sorted f.orderly in
    then_same _ _ _ _ a (record { written = refl; shows = appended-same s _ _ a.shows })

-- 02, CR 11
pub later_same : (s : Session) (l : List Verdict) (q : Queue) → Shows l q → Fit q → later s l ≡ splicing.later s q
unfolding later splicing.later
later_same s l q e f = (evicted-same s.start.0 l q e f.sorted f.orderly).shows.waiting (starts_after s.start.0)

-- the same turn, and CR 11's words the same
pub record SameSpliced (a : Spliced) (b : splicing.Spliced) : Type 0 where
  pub turn : SameTurn a.turn b.turn
  pub accepted : a.accepted ≡ b.accepted
  pub moved : a.moved ≡ b.moved

module _ (now : ℕ) (l : List Verdict) (q : Queue) (e : Shows l q) (h : Holding now q) where
  pub splice-same : (clock c : ℕ) (r : Request) → SameSpliced (answer_splice clock c r l) (splicing.answer_splice clock c r q)
  unfolding answer_splice splicing.answer_splice
  splice-same clock c r =
      rw (← (requested-same l q e h.once c r), ← (result-same l q e clock c r (requested c r l)))
      (chosen SameSpliced (eqb (splice_result clock c r (requested c r l) l) 100) _ _ _ _
      (λ f. record {
        turn = accepted-same (requested c r l) l q e (fit h);
        accepted = refl;
        moved =
            later_same (requested c r l) l q e (fit h);
      })
      (λ f. record { turn = record { written = refl; shows = e }; accepted = refl; moved = refl }))

  pub abort-same : (c x : ℕ) → SameTurn (answer_abort c x l) (answers.answer_abort c x q)
  unfolding answer_abort answers.answer_abort
  abort-same c x =
      rw (holds_same l q e c x)
      (chosen SameTurn (state.holds c x q) _ _ _ _
      (λ f. then_same _ _ (aborted c x) (ends.aborted c x) (record { written = refl; shows = e })
      (aborted-same c x l q e (fit h) h.proper f))
      (λ f. record { written = refl; shows = e }))

  -- ## 02, CR 8

  pub extended-same : (c x : ℕ) → extended_response c x l ≡ answers.extended_response c x q
  unfolding extended_response answers.extended_response
  extended-same c x = ap (λ (k : List Past). recalls c x (latest c x k)) (sym (recent-same l q e))

  -- ## Alive, and the feed on air

  pub alive-same : (air_state l ≡ answers.air_state q.started) × (air_id l ≡ answers.air_id q.started) ×
      (air_feed l ≡ answers.air_feed q.started)
  unfolding air_state air_id air_feed answers.air_state answers.air_id answers.air_feed
  alive-same = go q.started e.started h.falling
    where
      i : ℕ
      i = on_air l

      go : (k : List Session) → Same (standing has_started l) k → Falling k
          → (air_state l ≡ answers.air_state k) × (air_id l ≡ answers.air_id k) × (air_feed l ≡ answers.air_feed k)
      go [] g o = rw (found has_started (airs l) l [] g, le-ltb (place (airs l) []) 0 (omega arith)) (refl, refl, refl)
      go (a ∷ k) g o =
          let f : ltb i (length l) ≡ true = found has_started (airs l) l (a ∷ k) g
          ∙ lt-ltb (place (airs l) (a ∷ k)) (length (a ∷ k)) (omega (arith, top-place l (a ∷ k) g o)) in
          let x = rw (top-place l (a ∷ k) g o) at (same has_started (airs l) l (a ∷ k) g (top_one l (a ∷ k) g o) (ltb-true i (length l) f))
          in
          rw f (refl, ap (λ (s : Session). s.id) (sym x), refl)
