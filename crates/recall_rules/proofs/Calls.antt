-- Each call over verdicts answers as the call of 01, and a pass over kept calls shows the splicer that they lead to. Assumes nothing.
use mathlib.Core.Path.{◌≡◌, refl, ap, ap₂}
use mathlib.Core.Bool.{cond, not, ◌&&◌}
use mathlib.Core.List.{List, [], ◌∷◌}
use Prim.Native.Nat.{ℕ, ◌+◌}
use lib.Dec.{eqb, ltb}
use Rattle.rules.specs.declared.Refusal.{Refusal}
use Rattle.rules.specs.declared.Message.{Message}
use Rattle.rules.specs.declared.Message.TheVariants.{Init, Alive, Splice, Abort, Config, Extended}
use Rattle.rules.specs.Units.{time_of, bad_micros, from_micros, to_micros}
use Rattle.rules.specs.Lists.{All}
use Rattle.rules.specs.Bytes.{data_of}
use Rattle.rules.specs.Reading.{init_request, channel_name, is_read, read}
use Rattle.rules.specs.State.{Queue, Splicer, is_open, is_initialised}
use Rattle.rules.specs.Recent.{remembered_all}
use Rattle.rules.specs.Records.{Record, AliveResponse}
use Rattle.rules.specs.Answers as answers
use Rattle.rules.specs.Answers.{init_result}
use Rattle.rules.specs.Calls as calls
use Rattle.rules.specs.HouseNumbers as numbers
use Rattle.rules.specs.Cues.{bad_section}
use Rattle.rules.specs.HouseNumbers.{no_connection, no_room, long_section, Loans}
use Rattle.rules.specs.Calls.{framing, Call, opens, closes, messages, ticks, moves, cues}
use Rattle.rules.specs.Follows.Sound.{Holding, Sound, Wired}
use Rattle.rules.proofs.Sound.{sound-call}
use Rattle.recall_rules.specs.Verdicts.{Shows}
use Rattle.recall_rules.specs.Calls.{Pass, Answered, Called, link_of, not_open, says, alive_response, config_response, answer_init}
use Rattle.recall_rules.specs.Calls.{answer_read, answer, refuse, section_of, handled, open_call, close_call, message_call, ticked}
use Rattle.recall_rules.specs.Calls.{move_call, tick_call, cue_call, call, begun, passed}
use Rattle.recall_rules.proofs.Ends.{chosen, fit, closed_by-same}
use Rattle.recall_rules.proofs.Instants.{run_all-same}
use Rattle.recall_rules.proofs.Answers.{splice-same, abort-same, alive-same, extended-same}
use Rattle.std.specs.Prelude.{Err, Ok, Result, None, Option, Some}
use Rattle.rules.specs.declared.Header.{Header}

-- the splicer of a pass whose verdicts show q; its primary sum is in no answer
abbrev pub shown : Pass → ℕ → Queue → Splicer
shown s p q = record { name = s.name; clock = s.clock; primary = p; links = s.links; hardware = s.hardware; queue = q }

pub record SameState (s : Pass) (z : Splicer) : Type 0 where
  pub splicer : z ≡ shown s z.primary z.queue
  pub shows : Shows s.verdicts z.queue

pub record SameAnswered (a : Answered) (b : answers.Answered) : Type 0 where
  pub written : a.written ≡ b.written
  pub accepted : a.accepted ≡ b.accepted
  pub moved : a.moved ≡ b.moved
  pub state : SameState a.pass b.splicer

pub record SameCalled (a : Called) (b : numbers.Called) : Type 0 where
  pub answer : a.answer ≡ b.answer
  pub accepted : a.accepted ≡ b.accepted
  pub moved : a.moved ≡ b.moved
  pub state : SameState a.pass b.splicer

module _ (s : Pass) (p : ℕ) (q : Queue) (e : Shows s.verdicts q) (h : Holding s.clock q) where
  stays : SameState s (shown s p q)
  stays = record { splicer = refl; shows = e }

  -- nothing but the records
  says_same : (rs : List Record) → SameAnswered (says rs s) (answers.says rs (shown s p q))
  says_same rs = record { written = refl; accepted = refl; moved = refl; state = stays }

  init-same : (c revision : ℕ) (d : List ℕ) → SameAnswered (answer_init c revision d s) (answers.answer_init c revision d (shown s p q))
  unfolding answer_init answers.answer_init
  init-same c revision d =
      record {
        written = refl;
        accepted = refl;
        moved = refl;
        state = chosen SameState (eqb (init_result revision (channel_name d) s.name) 100) _ _ _ _
            (λ f. record { splicer = refl; shows = e }) (λ f. stays);
      }

  read_same : (c : ℕ) (m : Option Message) (d section : List ℕ) → SameAnswered (answer_read c m d section s)
      (answers.answer_read c m d section (shown s p q))
  unfolding answer_read alive_response config_response answers.answer_read answers.alive_response answers.config_response
  read_same c (Some (Init revision)) d section = init-same c revision d
  read_same c (Some Alive) d section =
      let a = alive-same s.clock s.verdicts q e h in
      record {
        written = ap₂ (λ x y. AliveResponse c 100 x y (to_micros (record { 0 = s.clock })).0 ∷ []) a.0 a.1;
        accepted = refl;
        moved = refl;
        state = stays;
      }
  read_same c (Some (Splice r)) d section =
      let t = splice-same s.clock s.verdicts q e h s.clock c r in
      record {
        written = t.turn.written;
        accepted = t.accepted;
        moved = t.moved;
        state =
            record { splicer = refl; shows = t.turn.shows };
      }
  read_same c (Some (Abort x)) d section =
      let t = abort-same s.clock s.verdicts q e h c x in
      record { written = t.written; accepted = refl; moved = refl; state = record { splicer = refl; shows = t.shows } }
  read_same c (Some (Extended x)) d section =
      record {
        written = ap (λ (y : Record). y ∷ []) (extended-same s.clock s.verdicts q e h c x);
        accepted = refl;
        moved = refl;
        state = stays;
      }
  read_same c (Some Config) d section = says_same _
  read_same c None d section = says_same _

  answer-same : (c id : ℕ) (d section : List ℕ) → SameAnswered (answer c id d section s) (answers.answer c id d section (shown s p q))
  unfolding answer answers.answer
  answer-same c id d section =
      chosen SameAnswered (eqb id 0x0000) _ _ _ _ (λ f. says_same _)
      (λ f. chosen SameAnswered (not (is_initialised (link_of c s)) && not (eqb id init_request)) _ _ _ _ (λ g. says_same _)
      (λ g. chosen SameAnswered (eqb id 0x000D) _ _ _ _ (λ i. says_same _)
      (λ i. chosen SameAnswered (not (is_read id)) _ _ _ _ (λ j. says_same _) (λ j. read_same c (read id d) d section))))

  refused-same : (n : Refusal) → SameCalled (refuse n s) (numbers.refuse n (shown s p q))
  refused-same n = record { answer = refl; accepted = refl; moved = refl; state = stays }

  -- the section on air
  section-same : (loans : Loans) → section_of loans s ≡ calls.section_of loans (shown s p q)
  section-same loans = ap (λ n. cond (eqb n 0) loans.primary loans.insertion) (alive-same s.clock s.verdicts q e h).2

  handled-same : (c : ℕ) (g : Result Header Refusal) (l : List ℕ) (loans : Loans) → SameCalled (handled c g l loans s)
      (calls.handled c g l loans (shown s p q))
  unfolding handled calls.handled
  handled-same c (Err n) l loans = refused-same n
  handled-same c (Ok g) l loans =
      let z = shown s p q in
      let d = data_of g.size l in
      let a : SameAnswered (answer c g.id d (section_of loans s) s) (answers.answer c g.id d (calls.section_of loans z) z) =
      rw (section-same loans) (answer-same c g.id d (calls.section_of loans z)) in
      record { answer = ap (λ x. numbers.good (8 + g.size) x) a.written; accepted = a.accepted; moved = a.moved; state = a.state }

  move_same : (until room : ℕ) → SameCalled (move_call until room s) (calls.move_call until room (shown s p q))
  unfolding move_call ticked calls.move_call calls.ticked
  move_same until room =
      let t = run_all-same s.clock until s.verdicts q e h in
      chosen SameCalled (no_room room) _ _ _ _ (λ f. refused-same _)
      (λ f. chosen SameCalled (ltb until s.clock) _ _ _ _ (λ g. refused-same _)
      (λ g. record {
        answer = ap (λ x. numbers.good 0 x) t.written;
        accepted = refl;
        moved = refl;
        state =
            record { splicer = refl; shows = t.shows };
      }))

  call-shown : (k : Call) → SameCalled (call k s) (calls.call k (shown s p q))
  unfolding call open_call close_call message_call tick_call cue_call calls.call calls.open_call calls.close_call calls.message_call
      calls.tick_call
      calls.cue_call
  call-shown (opens c) =
      chosen SameCalled (no_connection c) _ _ _ _ (λ f. refused-same _)
      (λ f. chosen SameCalled (is_open (link_of c s)) _ _ _ _ (λ g. refused-same _)
      (λ g. record { answer = refl; accepted = refl; moved = refl; state = record { splicer = refl; shows = e } }))
  call-shown (closes c room) =
      let t = closed_by-same c s.verdicts q e (fit h) in
      chosen SameCalled (no_connection c) _ _ _ _ (λ f. refused-same _)
      (λ f. chosen SameCalled (no_room room) _ _ _ _ (λ g. refused-same _)
      (λ g. chosen SameCalled (not_open c s) _ _ _ _ (λ i. refused-same _)
      (λ i. record {
        answer = ap (λ x. numbers.good 0 x) t.written;
        accepted = refl;
        moved = refl;
        state =
            record { splicer = refl; shows = t.shows };
      })))
  call-shown (messages c l loans) =
      chosen SameCalled (no_connection c) _ _ _ _ (λ f. refused-same _)
      (λ f. chosen SameCalled (no_room loans.room) _ _ _ _ (λ g. refused-same _)
      (λ g. chosen SameCalled (not_open c s) _ _ _ _ (λ i. refused-same _)
      (λ i. chosen SameCalled (long_section loans) _ _ _ _ (λ j. refused-same _) (λ j. handled-same c (framing l) l loans))))
  call-shown (ticks seconds micros room) =
      chosen SameCalled (no_room room) _ _ _ _ (λ f. refused-same _)
      (λ f. chosen SameCalled (bad_micros micros) _ _ _ _ (λ g. refused-same _)
      (λ g. move_same (from_micros (time_of seconds micros)).0 room))
  call-shown (moves until room) = move_same until room
  call-shown (cues l pts seconds micros room) =
      chosen SameCalled (no_room room) _ _ _ _ (λ f. refused-same _)
      (λ f. chosen SameCalled (bad_micros micros) _ _ _ _ (λ g. refused-same _)
      (λ g. chosen SameCalled (bad_section l) _ _ _ _ (λ i. refused-same _)
      (λ i. record { answer = refl; accepted = refl; moved = refl; state = stays })))

-- one rule, two ways: the same answer, and the verdicts show the splicer after it
pub call_same : (k : Call) (s : Pass) (z : Splicer) → SameState s z → Sound z → SameCalled (call k s) (calls.call k z)
call_same k s z m h = rw m.splicer (call-shown s z.primary z.queue m.shows
    (held z.clock (ap (λ (y : Splicer). y.clock) m.splicer) h.holding) k)
  where
    held : (t : ℕ) → t ≡ s.clock → Holding t z.queue → Holding s.clock z.queue
    held t e g = rw e at g

-- a pass over the calls leads to the verdicts of the splicer that they lead to
pub pass_same : (ks : List Call) (s : Pass) (z : Splicer) → All Wired ks → SameState s z → Sound z
    → SameState (passed ks s) (calls.after ks z)
unfolding passed calls.after
pass_same [] s z f m h = m
pass_same (k ∷ ks) s z f m h = pass_same ks (call k s).pass (calls.call k z).splicer f.1 (call_same k s z m h).state
    (sound-call z k f.0 h)

pub begun-same : (name : List ℕ) → SameState (begun name) (calls.named name)
unfolding begun calls.named remembered_all
begun-same name = record {
  splicer = refl;
  shows = record {
    waiting = λ r. refl;
    started = λ r. refl;
    lately = refl;
    numbered =
        λ n h. refl;
  };
}
