-- A trace of the door is a trace of the engine, with the same inputs, memory and buffers; what C reads is what is read there.
-- Rests on the door's promise, that the reply's words are the engine's answer.
use mathlib.Core.Path.{◌≡◌, refl, ap, ◌∙◌}
use mathlib.Core.Bool.{false}
use mathlib.Core.List.{List, [], ◌∷◌, ◌++◌}
use Prim.Native.Nat.{ℕ, ◌<◌}
use native.Mathlib.Omega.{arith}
use lib.Dec.{eqb}
use lib.ListN.{take}
use Rattle.rules.specs.declared.Refusal.{Refusal}
use Rattle.rules.specs.declared.Refusal.TheVariants.{NoConnection, NoRoom, ClockBack, Oversize, Short, AlreadyOpen, NotOpen, BadMicros}
use Rattle.rules.specs.declared.Refusal.TheVariants.{BadName, Counter, LongSection, BadSection, NotSixteen}
use Rattle.rules.specs.HouseNumbers as numbers
use Rattle.rules.specs.HouseNumbers.{refused, good, Called, house_number, consumed_by, written_by}
use Rattle.rules.specs.Calls.{call}
use Rattle.rules.proofs.All.{at_all}
use Rattle.demands.specs.Told.{number_of}
use Rattle.engine.specs.Lent.{Answer}
use Rattle.std.specs.Prelude.{Err, Ok}
use Rattle.engine.specs.Lent.{answer_of, Answers}
use Rattle.door.specs.Door.{reply_of, Replies, Input, an_open, a_close, a_message, a_tick, a_cue, Typed, call_of, buffer_of, Seen, Allowed}
use Rattle.door.proofs.Laws.{reply-is}
use Rattle.demands_engine.specs.Trace.{Memory}
use Rattle.demands_engine.specs.Trace as engine
use Rattle.demands_door.specs.Driven.{left, Made, made, Leads, Trace, More, number_in, written_in, moved_in, refusals}
use Rattle.demands_door.specs.Driven.{refusal_among, reply_in, event_of, events, calls, words_of, handed, answer_in, inside, within}

-- ## The reply's words

-- the table has each refusal once, under a number that is not 0
refusal-read : (n : Refusal) → (eqb (house_number n) 0 ≡ false) × (refusal_among refusals (house_number n) ≡ n)
unfolding house_number refusal_among
refusal-read NoConnection = (refl, refl)
refusal-read NoRoom = (refl, refl)
refusal-read ClockBack = (refl, refl)
refusal-read Oversize = (refl, refl)
refusal-read Short = (refl, refl)
refusal-read AlreadyOpen = (refl, refl)
refusal-read NotOpen = (refl, refl)
refusal-read BadMicros = (refl, refl)
refusal-read BadName = (refl, refl)
refusal-read Counter = (refl, refl)
refusal-read BadSection = (refl, refl)
refusal-read LongSection = (refl, refl)
refusal-read NotSixteen = (refl, refl)

-- of a reply that the door gives, C reads what the engine's answer has
pub number-told : (a : Answer) → number_in (reply_of a) ≡ engine.number_in a
unfolding reply_of engine.number_in
number-told (Err n) = refl
number-told (Ok did) = refl

answer-read : (a : Answer) → answer_in (reply_of a) ≡ a
unfolding reply_of
answer-read (Err n) = rw ((refusal-read n).0, (refusal-read n).1) refl
answer-read (Ok did) = refl

pub moved_told : (a : Answer) → moved_in (reply_of a) ≡ engine.moved_in a
unfolding reply_of engine.moved_in
moved_told (Err n) = refl
moved_told (Ok did) = refl

bytes-told : (a : Answer) (o : List ℕ) → take (written_in (reply_of a)) o ≡ engine.bytes_in a o
unfolding reply_of engine.bytes_in
bytes-told (Err n) o = refl
bytes-told (Ok did) o = refl

reply-told : (a : Answer) (o : List ℕ) → reply_in (reply_of a) o ≡ engine.reply_in a o
unfolding reply_of engine.reply_in engine.bytes_in
reply-told (Err n) o = rw ((refusal-read n).0, (refusal-read n).1) refl
reply-told (Ok did) o = refl

-- and what document 01 says
words-ruled : (a : numbers.Answer) (k : ℕ) → reply_of (answer_of a k) ≡ words_of a k
unfolding reply_of answer_of number_of consumed_by written_by
words-ruled (refused n) k = refl
words-ruled (good consumed rs) k = refl

-- ## One call

module _ {c : Called} {at : ℕ} {e r m b o : List ℕ} (x : Replies c at e r m b o) where
  -- the engine's promise, with the answer that C reads
  pub told : Answers c at e (answer_in r) m b o
  told = rw (x.reply, answer-read x.answer) x.answers

  -- the reply's words are those of the answer that C reads
  pub reply-back : r ≡ reply_of (answer_in r)
  reply-back = rw (x.reply, answer-read x.answer) refl

  pub number-inside : number_in r ≡ engine.number_in (answer_in r)
  number-inside = rw (x.reply, answer-read x.answer) (number-told x.answer)

  pub moved_inside : moved_in r ≡ engine.moved_in (answer_in r)
  moved_inside = rw (x.reply, answer-read x.answer) (moved_told x.answer)

  pub bytes_inside : take (written_in r) o ≡ engine.bytes_in (answer_in r) o
  bytes_inside = rw (x.reply, answer-read x.answer) (bytes-told x.answer o)

  pub reply-inside : reply_in r o ≡ engine.reply_in (answer_in r) o
  reply-inside = rw (x.reply, answer-read x.answer) (reply-told x.answer o)

  pub reply-ruled : r ≡ words_of c.answer c.moved
  reply-ruled = reply-is x ∙ words-ruled c.answer c.moved

pub call-handed : (i : Input) → call_of i ≡ engine.call_of (handed i)
call-handed (an_open conn) = refl
call-handed (a_close conn e) = refl
call-handed (a_message conn l pm im e) = refl
call-handed (a_tick seconds micros e) = refl
call-handed (a_cue l g e) = refl

pub buffer-handed : (i : Input) → buffer_of i ≡ engine.buffer_of (handed i)
buffer-handed (an_open conn) = refl
buffer-handed (a_close conn e) = refl
buffer-handed (a_message conn l pm im e) = refl
buffer-handed (a_tick seconds micros e) = refl
buffer-handed (a_cue l g e) = refl

pub typed-handed : (i : Input) → Typed i → engine.Typed (handed i)
typed-handed (an_open conn) t = t
typed-handed (a_close conn e) t = t
typed-handed (a_message conn l pm im e) t = t
typed-handed (a_tick seconds micros e) t = t
typed-handed (a_cue l g e) t =
    let w = at_all (λ x. x < 4294967296) 0 g (omega arith) t.2 in
    (t.0, omega (arith, w 0, w 1), w 2, w 3)

-- what the door's contract allows, the engine's does
pub allowed-inside : (m : Memory) (i : Input) (r : Seen) → Allowed m.words m.bytes i r → engine.Allowed m (handed i) (inside r)
unfolding call
allowed-inside m (an_open conn) r x = told x
allowed-inside m (a_close conn e) r x = told x
allowed-inside m (a_message conn l pm im e) r x = told x
allowed-inside m (a_tick seconds micros e) r x = told x
allowed-inside m (a_cue l g e) r x = told x

event-inside : (m : Memory) (i : Input) (r : Seen) → Allowed m.words m.bytes i r
    → event_of (made i r) ≡ engine.event_of (engine.made (handed i) (inside r))
event-inside m i r x = λ j. record { call = call-handed i j; reply = reply-inside x j }

-- ## The calls that led from one memory to another

pub calls-inside : (h : List Made) → calls h ≡ engine.calls (within h)
calls-inside [] = refl
calls-inside (x ∷ h) = λ j. call-handed x.input j ∷ calls-inside h j

pub within-append : (h g : List Made) → within (h ++ g) ≡ within h ++ within g
within-append [] g = refl
within-append (x ∷ h) g = ap (λ l. engine.made (handed x.input) (inside x.result) ∷ l) (within-append h g)

pub led-inside : (h : List Made) (b m : Memory) → Leads b h m → engine.Leads b (within h) m
led-inside [] b m l = l
led-inside (x ∷ h) b m l =
    (typed-handed x.input l.0, allowed-inside b x.input x.result l.1, led-inside h (left x.result) m l.2)

led-events : (h : List Made) (b m : Memory) → Leads b h m → events h ≡ engine.events (within h)
led-events [] b m l = refl
led-events (x ∷ h) b m l = λ j. event-inside b x.input x.result l.1 j ∷ led-events h (left x.result) m l.2 j

-- ## Traces

module _ (name : List ℕ) (h : List Made) (m : Memory) where
  abbrev pub trace-inside : Trace name h m → engine.Trace name (within h) m
  trace-inside t =
      record {
        whole = t.whole;
        bytes = t.bytes;
        begun = t.begun;
        reply = answer_in t.reply;
        fresh = told t.fresh;
        leads = led-inside h t.begun m t.leads;
      }

  pub trace-events : Trace name h m → events h ≡ engine.events (within h)
  trace-events t = led-events h t.begun m t.leads

  pub more-inside : (i : Input) (r : Seen) → More name h m i r → engine.More name (within h) m (handed i) (inside r)
  more-inside i r c =
      record {
        trace = trace-inside c.trace;
        typed = typed-handed i c.typed;
        allowed = allowed-inside m i r c.allowed;
      }
