-- The premises of docs/DEMANDS.md, "Premises", that a splicer, a request or a call meets, each met from a fresh splicer by calls with
-- concrete
-- bytes: the theorems speak of something. Rests on computing alone.
use mathlib.Core.Path.{◌≡◌, refl}
use mathlib.Core.Bool.{Bool, true, false, ◌&&◌}
use mathlib.Core.List.{List, [], ◌∷◌, ◌++◌, map}
use Prim.Native.Nat.{ℕ, ◌<◌}
use lib.Dec.{T, ltb, ltb→lt}
use lib.ListN.{length, replicate}
use Rattle.rules.specs.declared.Request.{Request}
use Rattle.rules.specs.declared.Refusal.TheVariants.{AlreadyOpen}
use Rattle.rules.specs.Lists
use Rattle.rules.specs.Lists.{All, some}
use Rattle.rules.specs.Bytes
use Rattle.rules.specs.Follows.Wires.{Byte}
use Rattle.rules.specs.Bytes.{bytes, padded, has_zero}
use Rattle.rules.specs.Reading
use Rattle.rules.specs.Request
use Rattle.rules.specs.Descriptors
use Rattle.rules.specs.Request.{nobody, tail_of, whole_request}
use Rattle.rules.specs.Follows.ReadBack.{data_in}
use Rattle.rules.specs.Reading.{alive_request, extended_request, config_request, default_type}
use Rattle.rules.specs.State
use Rattle.rules.specs.State.{Splicer, starts_at}
use Rattle.rules.specs.Records
use Rattle.rules.specs.Follows.ReadBack
use Rattle.rules.specs.Follows.ReadBack.{records_in}
use Rattle.rules.specs.Ends
use Rattle.rules.specs.Instants
use Rattle.rules.specs.Answers
use Rattle.rules.specs.Splicing
use Rattle.rules.specs.Splicing.{requested}
use Rattle.rules.specs.Calls
use Rattle.rules.specs.HouseNumbers
use Rattle.rules.specs.HouseNumbers.{refused, written_by, Loans, lending}
use Rattle.rules.specs.Calls.{fresh, Call, opens, closes, messages, ticks, cues, call, after}
use Rattle.rules.specs.Card.{card_name}
use Rattle.demands.specs.History
use Rattle.demands.specs.History.{Event, reply_of, history, own_answer, waiting_count}
use Rattle.demands.specs.Airing
use Rattle.demands.specs.Airing.{airings_told}
use Rattle.demands.specs.Told.{FromFresh, answers, Asks, Passes, Inquires, first_number, earlier_code, number_of, granted_by}
use Rattle.demands.specs.Kept.{is_initialising, initialises, changes, changed, AsksConfig, AsksAlive, Ready}

-- ## The calls

unfoldable pub name : List ℕ
name = padded card_name

-- a MessageID, a MessageSize, both Result fields, and the data
unfoldable pub message : (id size : ℕ) (d : List ℕ) → List ℕ
message id size d = bytes 2 id ++ (bytes 2 size ++ (bytes 4 0xFFFFFFFF ++ d))

-- Revision_Num 2, the ChannelName, an empty SplicerName, a Hardware_Config of Length 0
unfoldable pub initialise : List ℕ
initialise = message 1 68 (bytes 2 2 ++ (name ++ replicate 34 0))

-- number 1, timed, at some second; ServiceID 1, a second long, AccessType 1
unfoldable pub asking : ℕ → List ℕ
asking second =
    message 7 33 (bytes 4 1 ++ (bytes 4 nobody ++ (bytes 4 second ++ (bytes 4 0
    ++ (bytes 2 1 ++ (bytes 4 90000 ++ (bytes 4 nobody ++ (bytes 4 0 ++ (1 ∷ 0 ∷ 1 ∷ [])))))))))

-- 02, CR 8: of number 1
unfoldable pub inquiring : List ℕ
inquiring = message extended_request 8 (bytes 4 1 ++ bytes 4 default_type)

-- 02, CR 6: without data
unfoldable pub configuring : List ℕ
configuring = message config_request 0 []

-- at time 0
unfoldable pub alive : List ℕ
alive = message alive_request 8 (replicate 8 0)

unfoldable pub room : Loans
room = lending 4096

unfoldable pub calls : List Call
calls = opens 0 ∷ messages 0 initialise room ∷ []

unfoldable pub heard : List Event
heard = history calls (fresh name).splicer

-- clock 0, connection 0 initialised
unfoldable pub now : Splicer
now = after calls (fresh name).splicer

-- the answer's records to a call
unfoldable pub told : Call → Splicer → List Records.Record
told k s = records_in (written_by (call k s).answer)

-- and then the request for the tenth second has come
unfoldable pub asked : Call
asked = messages 0 (asking 10) room

unfoldable pub waiting : Splicer
waiting = (call asked now).splicer

-- and then that second
unfoldable pub airing : Splicer
airing = (call (ticks 10 0 4096) waiting).splicer

-- 02, CR 7: splice_null, 20 bytes
unfoldable pub section : List ℕ
section = 0xFC ∷ 0x30 ∷ 0x11 ∷ replicate 7 0 ++ (0xFF ∷ 0xF0 ∷ 0 ∷ 0 ∷ 0 ∷ 0 ∷ 0x7A ∷ 0x4F ∷ 0xBF ∷ 0xFF ∷ [])

unfoldable pub request : ℕ → Request
request second = whole_request (data_in (asking second)) (tail_of (data_in (asking second)))

-- ## Bytes are bytes

unfoldable each : List ℕ → Bool
each [] = true
each (b ∷ l) = ltb b 256 && each l

split : (a b : Bool) → T (a && b) → T a × T b
split true b h = (tt, h)
split false b h = absurd h

small : (l : List ℕ) → T (each l) → All Byte l
unfolding each
small [] h = tt
small (b ∷ l) h = let p = split (ltb b 256) (each l) h in (ltb→lt b 256 p.0, small l p.1)

-- ## The witnesses

-- what they are computed with
unfoldable computing : ℕ
unfolding name message initialise asking inquiring configuring alive room calls heard now told asked waiting airing section request each
    card_name Lists.place Lists.insert_at Lists.remove_at Bytes.bytes Bytes.value Bytes.value_from Reading.read_init Reading.read_alive
    Request.tail_of Request.read_whole Request.read_splice Descriptors.mux_from Request.read_start Reading.read_extended Reading.read
    State.empty
    State.due Records.framed Records.record_bytes Records.output ReadBack.record_in ReadBack.records_up_to ReadBack.records_in Ends.and_then
    Ends.endings Ends.evicted Ends.evicted_at Ends.closed_by Instants.may_start Instants.meets_equal Instants.ousted Instants.launched
    Instants.start_at Instants.end_at Instants.instant Instants.on_air Instants.elapse Instants.run Instants.run_all Instants.silent
    Instants.silent_all Answers.init_result Answers.answer_init Answers.air_state Answers.air_id Answers.alive_response Splicing.start_of
    Splicing.session_at Splicing.requested Splicing.unknown_prior Splicing.too_late Splicing.collides Splicing.full Splicing.splice_result
    Splicing.inserted Splicing.accepted Splicing.later Splicing.answer_splice Answers.answer_read Answers.answer HouseNumbers.written_by
    Calls.named
    Calls.fresh Calls.open_call Calls.close_call Calls.framing Calls.handled Calls.message_call Calls.ticked Calls.move_call Calls.tick_call
    Calls.cue_call Calls.call Calls.after History.is_yes History.history History.last History.wait_answered History.wait_after
    History.wait_replied History.waiting_told History.waiting_count History.is_start History.is_end History.front History.others_of
    History.start_told History.end_asked History.last_told Airing.newest Airing.lists Airing.says_played Airing.heard Airing.by_then
    Airing.heard_all Airing.start_asked Airing.airing_asked Airing.aired_answered Airing.aired_after Airing.aired_replied Airing.airings
    answers
    first_number earlier_code number_of granted_by is_initialising initialises changes changed
computing = 0

pub reached : FromFresh heard now
unfolding computing
reached =
    record {
      name = name;
      whole = refl;
      bytes = small name tt;
      calls = calls;
      wired = (tt, ((small initialise tt, tt, tt), tt));
      heard =
          refl;
      same = refl;
    }

-- 10 s on
pub asks : Asks 0 (asking 10) room (request 10) now
unfolding computing
asks = record {
  bytes = (small (asking 10) tt, tt, tt);
  low = refl;
  roomy = refl;
  sections = refl;
  ready = refl;
  framed = refl;
  readable =
      refl;
}

pub passes : Passes 0 (request 10) now
unfolding computing
passes = record { b = refl; c' = refl; d = refl }

-- a second on: 112
pub late-asks : Asks 0 (asking 1) room (request 1) now
unfolding computing
late-asks = record {
  bytes = (small (asking 1) tt, tt, tt);
  low = refl;
  roomy = refl;
  sections = refl;
  ready = refl;
  framed = refl;
  readable = refl;
}

pub late : earlier_code 0 (request 1) now ≡ 112
unfolding computing
late = refl

-- 02, CR 8
pub inquires : Inquires 0 inquiring room 1 now
unfolding computing
inquires = record {
  wired = (small inquiring tt, tt, tt);
  low = refl;
  roomy = refl;
  short = refl;
  ready = refl;
  framed = refl;
  readable =
      refl;
}

-- 02, CR 6: of a connection that is ready
pub is-ready : Ready 0 now
unfolding computing
is-ready = refl

pub asks-config : AsksConfig 0 configuring room now
unfolding computing
asks-config = record { bytes = (small configuring tt, tt, tt); low = refl; roomy = refl; sections = refl; framed = refl }

pub asks-alive : AsksAlive 0 alive room now
unfolding computing
asks-alive = record { bytes = (small alive tt, tt, tt); low = refl; roomy = refl; sections = refl; framed = refl }

-- and of one that has just opened
pub opened : number_of (call (opens 1) now).answer ≡ 0
unfolding computing
opened = refl

pub opened-asks : AsksConfig 1 configuring room (call (opens 1) now).splicer
unfolding computing
opened-asks = record { bytes = (small configuring tt, tt, tt); low = refl; roomy = refl; sections = refl; framed = refl }

-- ## Of the same request for the tenth second

-- its connection has fewer than 10 waiting, the answer is 100, and nobody that waits starts with it
pub few : waiting_count 0 heard < 10
unfolding computing
few = ltb→lt (waiting_count 0 heard) 10 tt

pub granted : own_answer (answers 100 0 1) (told asked now) ≡ true
unfolding computing
granted = refl

pub free : some (starts_at (requested 0 (request 10) now.queue).start.0) now.queue.waiting ≡ false
unfolding computing
free = refl

-- and of the late one: it is not granted
pub not-granted : granted_by (messages 0 (asking 1) room) (told (messages 0 (asking 1) room) now) ≡ false
unfolding computing
not-granted = refl

-- ## What waits, what is on air

-- 02, CR 10: one waits, and none is started
pub waits : 0 < length waiting.queue.waiting
unfolding computing
waits = ltb→lt 0 (length waiting.queue.waiting) tt

pub none-started : waiting.queue.started ≡ []
unfolding computing
none-started = refl

-- "An ad server dropped its connection with its spot on air.": one is on air, and the close is good
pub on-air : length airing.queue.started ≡ 1
unfolding computing
on-air = refl

pub closed : number_of (call (closes 0 4096) airing).answer ≡ 0
unfolding computing
closed = refl

-- 02, CR 13: a second later its end tells a PlayedDuration
unfoldable pub day : List Event
day = history (opens 0 ∷ messages 0 initialise room ∷ asked ∷ ticks 10 0 4096 ∷ ticks 11 0 4096 ∷ []) (fresh name).splicer

pub listed : map (λ a. a.listed) (airings_told day) ≡ true ∷ []
unfolding computing day
listed = refl

-- ## Calls and names

-- a bad call, and a name without a zero byte
pub refuses : (call (opens 0) now).answer ≡ refused AlreadyOpen
unfolding computing
refuses = refl

pub bad-name : has_zero (replicate 32 1) ≡ false
bad-name = refl

-- 02, CR 6: a call that changes nothing of what is kept
pub unchanged : changed 0 (messages 0 alive room) (reply_of (call (messages 0 alive room) now).answer) ≡ false
unfolding computing
unchanged = refl

-- 02, CR 7: a good cue call
pub cued : number_of (call (cues section 0 0 0 4096) now).answer ≡ 0
unfolding computing
cued = refl

-- two good ticks, one behind the other, and the second alone
pub ticks-good : (number_of (call (ticks 5 0 4096) waiting).answer ≡ 0)
    × (number_of (call (ticks 10 0 4096) (call (ticks 5 0 4096) waiting).splicer).answer ≡ 0)
    × (number_of (call (ticks 10 0 4096) waiting).answer ≡ 0)
unfolding computing
ticks-good = (refl, refl, refl)
