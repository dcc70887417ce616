-- A Splice_Request's own answer, from the answer's bytes: the first code that applies, and 114 as the answers' counts say.
-- Rests on Waiting (the answers' counts are the splicer's) and on the bytes giving back their records.
use mathlib.Core.Path.{◌≡◌, refl, ◌∙◌}
use mathlib.Core.Bool.{Bool, true, false, cond}
use mathlib.Core.List.{List}
use mathlib.Core.Logic.{◌⊎◌, inl, inr}
use Prim.Native.Nat.{ℕ, ◌+◌, ◌≤◌}
use native.Mathlib.Omega.{arith}
use lib.Dec.{eqb}
use Rattle.rules.specs.declared.Request.{Request}
use Rattle.rules.specs.Bytes.{message_size}
use Rattle.rules.specs.Reading.{read}
use Rattle.rules.specs.declared.Link.{Link}
use Rattle.rules.specs.declared.Link.TheVariants.{Closed, Opened, Initialised}
use Rattle.rules.specs.State.{Splicer, link_of, is_open, is_initialised}
use Rattle.rules.specs.Follows.ReadBack.{records_in}
use Rattle.rules.specs.Ends.{and_then, evicted}
use Rattle.rules.specs.Splicing.{session_at, requested, wrong_number, too_late, collides, full, splice_result, accepts, accepted, Spliced}
use Rattle.rules.specs.Answers.{splices, answer_read, answer}
use Rattle.rules.specs.Splicing.{answer_splice}
use Rattle.rules.specs.HouseNumbers.{replies, Loans, written_by}
use Rattle.rules.specs.Calls.{handled, message_call, messages, call}
use Rattle.demands.specs.History.{Event, last, own_answer, waiting_count}
use Rattle.rules.specs.Follows.Sound.{Sound}
use Rattle.rules.proofs.Tests.{by, clash, eqb_same}
use Rattle.rules.proofs.Sound.{reached-sound, sound-found}
use Rattle.demands.specs.Told.{FromFresh, answers, Asks, Passes, earlier_code, full_told}
use Rattle.demands.proofs.Waiting.{last-last, waiting-counted}

pub from-sound : (h : List Event) (s : Splicer) → FromFresh h s → Sound s
from-sound h s f = reached-sound s (record {
  name = f.name;
  whole = f.whole;
  bytes = f.bytes;
  calls = f.calls;
  wired = f.wired;
  same =
      f.same;
})

-- "That count never passes 20."
pub count_room : (h : List Event) (s : Splicer) → FromFresh h s → (c : ℕ) → waiting_count c h ≤ 20
count_room h s f c = omega (arith, waiting-counted h s f c, (from-sound h s f).holding.room.each c)

pub ready-open : (l : Link) → is_initialised l ≡ true → is_open l ≡ true
ready-open Closed e = absurd (clash false e refl)
ready-open Opened e = refl
ready-open Initialised e = refl

module _ (c : ℕ) (l : List ℕ) (loans : Loans) (r : Request) (s : Splicer) (a : Asks c l loans r s) where
  pub splice-call : call (messages c l loans) s
      ≡ replies (8 + message_size l) (splices (answer_splice s.clock c r s.queue) s)
  unfolding call message_call handled answer answer_read read
  splice-call = rw (a.low, a.roomy, ready-open (link_of c s) a.ready, a.sections, a.framed, a.ready, a.readable)

  own : last (answers (splice_result s.clock c r (requested c r s.queue) s.queue) c r.id)
      (answer_splice s.clock c r s.queue).turn.written ≡ true
  unfolding answer_splice accepted and_then last answers requested session_at
  own =
      let n = splice_result s.clock c r (requested c r s.queue) s.queue in
      let new = requested c r s.queue in
      by (λ (a : Spliced). last (answers n c r.id) a.turn.written ≡ true) (eqb n 100) _ _
      (λ e. last-last (answers n c r.id) (evicted new.start.0 s.queue).written (accepts new)
      ∙ rw (e, eqb_same c, eqb_same r.id))
      (λ e. rw (eqb_same n, eqb_same c, eqb_same r.id))

  -- "a refused one carries the first result code that applies"
  pub own-answer : (h : List Event) → FromFresh h s
      → own_answer (answers (splice_result s.clock c r (requested c r s.queue) s.queue) c r.id)
      (records_in (written_by (call (messages c l loans) s).answer)) ≡ true
  own-answer h f = rw (sound-found s (messages c l loans) a.bytes (from-sound h s f), splice-call) own

  -- "passes every earlier check in 01's order", or the first of them that applies gives the code
  pub passes-or-earlier : (h : List Event) → FromFresh h s
      → Passes c r s ⊎ ((earlier_code c r s ≡ 100 → ⊥)
      × (own_answer (answers (earlier_code c r s) c r.id) (records_in (written_by (call (messages c l loans) s).answer)) ≡ true))
  unfolding splice_result earlier_code
  passes-or-earlier h f =
      go (wrong_number c r s.queue) (too_late s.clock r.start) (collides (requested c r s.queue) s.queue.waiting) refl refl
      refl
    where
      given : ℕ → Type 0
      given n = own_answer (answers n c r.id) (records_in (written_by (call (messages c l loans) s).answer)) ≡ true

      told : given (splice_result s.clock c r (requested c r s.queue) s.queue)
      told = own-answer h f

      go : (y z w : Bool) → wrong_number c r s.queue ≡ y → too_late s.clock r.start ≡ z
          → collides (requested c r s.queue) s.queue.waiting ≡ w
          → Passes c r s ⊎ ((earlier_code c r s ≡ 100 → ⊥) × given (earlier_code c r s))
      go false false false eb ec ed = inl (record { b = eb; c' = ec; d = ed })
      go true z w eb ec ed = inr (rw eb (λ z. omega (arith, z)), rw eb (rw eb at told))
      go false true w eb ec ed = inr (rw (eb, ec) (λ z. omega (arith, z)), rw (eb, ec) (rw (eb, ec) at told))
      go false false true eb ec ed = inr (rw (eb, ec, ed) (λ z. omega (arith, z)), rw (eb, ec, ed) (rw (eb, ec, ed) at told))

-- what check e looks at is what the answers say
full-counted : (h : List Event) (s : Splicer) → FromFresh h s → (c : ℕ) → full c s.queue.waiting ≡ full_told c h
unfolding full full_told
full-counted h s f c = let n = waiting-counted h s f in rw (n c, n 0, n 1, n 2, n 3)

passed-code : (h : List Event) (s : Splicer) → FromFresh h s → (c : ℕ) (r : Request) → Passes c r s
    → splice_result s.clock c r (requested c r s.queue) s.queue ≡ cond (full_told c h) 114 100
unfolding splice_result
passed-code h s f c r p = rw (p.b, p.c', p.d, full-counted h s f c)

pub full-answer : (h : List Event) (s : Splicer) → FromFresh h s → (c : ℕ) (l : List ℕ) (loans : Loans) (r : Request) → Asks c l loans r s
    → Passes c r s
    → own_answer (answers (cond (full_told c h) 114 100) c r.id) (records_in (written_by (call (messages c l loans) s).answer)) ≡ true
full-answer h s f c l loans r a p = rw (← (passed-code h s f c r p)) (own-answer c l loans r s a h f)
