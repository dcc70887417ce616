-- 02, CR 11, of one call: what it reports, and which of the lent places it changes. Rests on demands' Moved and on memory's places-stay.
use mathlib.Core.Path.{◌≡◌, refl, sym, ap, ◌∙◌}
use mathlib.Core.Bool.{true, false}
use mathlib.Core.List.{List, [], ◌∷◌}
use Prim.Native.Nat.{ℕ, ◌+◌, ◌-◌}
use lib.Dec.{eqb}
use lib.ListN.{length, take}
use borrow.Author.Tests.{eqb-true}
use Rattle.rules.specs.declared.Request.{Request}
use Rattle.rules.specs.declared.Session.{Session}
use Rattle.rules.specs.Lists.{some, count, place, insert_at}
use Rattle.rules.specs.Bytes.{message_size, has_zero}
use Rattle.rules.specs.State.{Splicer, same_number, starts_at, starts_after}
use Rattle.rules.specs.Records.{Record, General, InitResponse, AliveResponse, SpliceResponse, SpliceComplete, AbortResponse, ConfigResponse}
use Rattle.rules.specs.Records.{ExtendedFound, ExtendedNone, CueRequest}
use Rattle.rules.specs.Ends.{Turn, and_then, evicted}
use Rattle.rules.specs.Splicing.{requested, splice_result, inserted, accepted, later, grants, answer_splice}
use Rattle.rules.specs.Answers.{splices}
use Rattle.rules.specs.HouseNumbers.{Called, lending_maps, replies}
use Rattle.rules.specs.Calls.{Call, messages, call, fresh, ticked}
use Rattle.rules.proofs.Tests.{by, and_both, clash}
use Rattle.rules.proofs.Count.{place≤}
use Rattle.rules.proofs.Moves.{evicted-none, later-behind}
use Rattle.rules.proofs.Sound.{few-wait, reached-sound}
use Rattle.places.specs.Places.{round, next}
use Rattle.memory.specs.declared.Which.TheVariants.{Waiting}
use Rattle.memory.specs.Memory.{see, sessions, places_from, shifted}
use Rattle.memory.proofs.Stays.{places-stay}
use Rattle.demands.specs.History.{last}
use Rattle.demands.specs.Told.{answers, Asks}
use Rattle.demands.proofs.Cases.{cases}
use Rattle.demands.proofs.Room.{splice-call}
use Rattle.engine.specs.Lent.{Lent, answer_of}
use Rattle.demands_engine.specs.Trace.{Memory, shown, Input, a_message, call_of, Result, Allowed, moved_in, moved}
use Rattle.demands_engine.proofs.Steps.{promised}

-- the answer has the call's number: a refusal reports none
moved-read : (s : Splicer) (k : Call) → moved_in (answer_of (call k s).answer (call k s).moved) ≡ (call k s).moved
unfolding moved_in answer_of ticked
moved-read s =
    cases s (λ k r. moved_in (answer_of r.answer r.moved) ≡ r.moved) (record {
      refusing = λ k n. refl;
      opening = λ c low e. refl;
      closing = λ c room low e. refl;
      saying = λ c l loans n rs e p. refl;
      naming = λ c l loans n r hw e p. refl;
      aborting = λ c l loans n x e i. refl;
      declining = λ c l loans n r e y o. refl;
      accepting = λ c l loans n r e f p. refl;
      ticking = λ seconds micros room le. refl;
      moving = λ until room le. refl;
      cueing = λ l pts seconds micros room rs p. refl;
    })

-- fresh accepts nothing
pub fresh-none : (name : List ℕ) → moved_in (answer_of (fresh name).answer (fresh name).moved) ≡ 0
unfolding fresh moved_in answer_of
fresh-none name = by (λ (r : Called). moved_in (answer_of r.answer r.moved) ≡ 0) (has_zero name) _ _ (λ e. refl) (λ e. refl)

-- so does every result that its contract allows
pub moved-is : (m : Memory) (i : Input) (r : Result) → Allowed m i r → moved r ≡ (call (call_of i) (shown m)).moved
moved-is m i r a = ap moved_in (promised m i r a).answer ∙ moved-read (shown m) (call_of i)

-- a Splice_Response has one code
one_code : (r : Record) (a b c x : ℕ) → answers a c x r ≡ true → answers b c x r ≡ true → a ≡ b
unfolding answers
one_code (General d n) a b c x e f = absurd (clash false e refl)
one_code (InitResponse d n l) a b c x e f = absurd (clash false e refl)
one_code (AliveResponse d n s i t) a b c x e f = absurd (clash false e refl)
one_code (SpliceResponse d n i) a b c x e f =
    eqb-true a n (and_both (eqb a n) (same_number c x d i) e).0 ∙ sym (eqb-true b n (and_both (eqb b n) (same_number c x d i) f).0)
one_code (SpliceComplete d n i g p) a b c x e f = absurd (clash false e refl)
one_code (AbortResponse d n i) a b c x e f = absurd (clash false e refl)
one_code (CueRequest d s u l) a b c x e f = absurd (clash false e refl)
one_code (ExtendedFound d i event ended played) a b c x e f = absurd (clash false e refl)
one_code (ExtendedNone d i) a b c x e f = absurd (clash false e refl)
one_code (ConfigResponse d n l h s) a b c x e f = absurd (clash false e refl)

pub last_code : (l : List Record) (a b c x : ℕ) → last (answers a c x) l ≡ true → last (answers b c x) l ≡ true → a ≡ b
unfolding last
last_code [] a b c x e f = absurd (clash false e refl)
last_code (r ∷ []) a b c x e f = one_code r a b c x e f
last_code (r ∷ s ∷ l) a b c x e f = last_code (s ∷ l) a b c x e f

-- ## An acceptance that evicts nobody

module _ (m : Memory) (l : Lent m.words m.bytes) (d : ℕ) (i pm im e : List ℕ) (r : Result) (a : Allowed m (a_message d i pm im e) r)
    (q : Request)
    (asks : Asks d i (lending_maps pm im (length e)) q (shown m))
    (code : splice_result (shown m).clock d q (requested d q (shown m).queue) (shown m).queue ≡ 100) where
  abbrev new : Session
  new = requested d q (shown m).queue

  abbrev w : List Session
  w = (shown m).queue.waiting

  -- the call is the acceptance of the new one
  granted : call (messages d i (lending_maps pm im (length e))) (shown m)
      ≡ replies (8 + message_size i) (splices (grants new (shown m).queue) (shown m))
  unfolding answer_splice
  granted = splice-call d i (lending_maps pm im (length e)) q (shown m) asks ∙ rw code

  -- where none has the new one's start
  pub others-stay : some (starts_at new.start.0) w ≡ false
      → let k = next (see m.words).ring_end in
      take (round - (moved r + 1)) (places_from k r.memory.words) ≡ take (round - (moved r + 1)) (places_from k m.words)
  unfolding accepted and_then inserted later
  others-stay free =
      let t = new.start.0 in
      let at = place (starts_after t) w in
      let p = promised m (a_message d i pm im e) r a in
      let none : w ≡ (evicted t (shown m).queue).queue.waiting =
      ap (λ (u : Turn). u.queue.waiting) (evicted-none t (shown m).queue free) in
      let ring : (see r.memory.words).ring_end ≡ next (see m.words).ring_end =
      p.ring ∙ ap (λ (c : Called). shifted c.accepted (see m.words).ring_end) granted in
      let list : sessions Waiting r.memory.words ≡ insert_at at new w =
      ap (λ (s : Splicer). s.queue.waiting) (p.splicer ∙ ap (λ (c : Called). c.splicer) granted)
      ∙ ap (λ (v : List Session). insert_at (place (starts_after t) v) new v) (sym none) in
      let holds = (reached-sound (shown m) l.reached).holding in
      let shifts : moved r ≡ length w - at =
      moved-is m (a_message d i pm im e) r a ∙ ap (λ (c : Called). c.moved) granted
      ∙ ap (count (starts_after t)) (sym none) ∙ sym (later-behind t w holds.timed.sorted) in
      let few = few-wait (reached-sound (shown r.memory) p.lent.reached).holding in
      places-stay m.words r.memory.words at (moved r) new l.whole.words p.lent.whole.words ring list
      (place≤ (starts_after t) w) few shifts
