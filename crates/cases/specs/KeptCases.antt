-- 02, CR 6: what each connection keeps (demands' Kept), from histories written down by hand, the bytes of requests and of answers; which
-- requests its statements speak of, and the State of an Alive_Response. Assumes nothing.
use Rattle.std.specs.Prelude.{◌≡◌, refl, true, false, List, [], ◌∷◌, ◌++◌, map, ℕ, suc, replicate, Err, Ok, Result}
use Rattle.std.proofs.Common.{ap}
use Prim.Native.String.{String}
use Rattle.rules.specs.declared.Refusal.TheVariants.{NotOpen, NoRoom, LongSection}
use Rattle.rules.specs.Lists.{bit}
use Rattle.rules.specs.State.{Splicer}
use Rattle.rules.specs.Follows.ReadBack.{records_in}
use Rattle.rules.specs.Calls.{Call, opens, closes, messages, ticks, cues, fresh, after}
use Rattle.rules.specs.HouseNumbers.{Loans, lending, lending_maps}
use Rattle.demands.specs.History.{Event, wrote}
use Rattle.demands.specs.Kept
use Rattle.demands.specs.Kept.{changed, kept_told, AsksConfig, AsksAlive, Ready, state_in}
use Rattle.cases.specs.Scenario.{hex}
use Rattle.cases.specs.Computing.{computing}
use Rattle.cases.specs.Heard.{heard, silent, denied, till, says, each, small, unlike, unordered, not-true, not-false}
use Rattle.rules.specs.declared.Header.{Header}
use Rattle.rules.specs.declared.Refusal.{Refusal}

-- what the definitions of demands' Kept are computed with
unfoldable telling : ℕ
unfolding Kept.is_initialising Kept.initialises Kept.changes Kept.left Kept.changed Kept.kept_behind Kept.kept_told Kept.state_in heard
    silent
    denied till says computing
telling = 0

-- ## Init_Requests and their answers

-- "CH1" in 32 bytes
name : List ℕ
name = hex "43483100" ++ replicate 28 0

-- an Init_Request of connection c with "CH1", an empty SplicerName and what stands behind them; size: its MessageSize, 66 and that
init : ℕ → (size behind : String) → Call
init c size h = messages c (hex "0001" ++ (hex size ++ (hex "FFFF FFFF 0002" ++ (name ++ (replicate 32 0 ++ hex h))))) (lending 4096)

-- Init_Response to connection c with a result
answers : (c result : String) → List ℕ
answers c result = hex "52" ++ (hex c ++ (hex "0002 0022" ++ (hex result ++ (hex "FFFF 0002" ++ name))))

-- an Init_Request of connection 0 that got a result
greets : (size behind result : String) → Event
greets size h result = record { call = init 0 size h; reply = wrote (answers "00" result) }

-- ## What is kept

-- a call with its answer, 1 if it changes what connection 0 keeps, and what 0 keeps then
record Step : Type 0 where
  event : Event
  changes : ℕ
  keeps : String

step : Event → ℕ → String → Step
step e n h = record { event = e; changes = n; keeps = h }

steps : List Step
steps =
    -- before the first good one: a Length 0 alone
    step (silent (opens 0)) 0 "0000"
    ∷ step (silent (opens 1)) 0 "0000"
    -- another connection's
    ∷ step (record { call = init 1 "0047" "0003 111213"; reply = wrote (answers "01" "0064") }) 0 "0000"
    -- 102 and 104 keep nothing; nor does 123: past the end
    ∷ step (greets "0045" "0001 AA" "0066") 0 "0000"
    ∷ step (greets "0045" "0001 AA" "0068") 0 "0000"
    ∷ step (heard (init 0 "0045" "0002 AA") "5200 0000 0000 007B FFFF") 0 "0000"
    -- 100: with its Length, and what follows the structure is not of it
    ∷ step (greets "0048" "0002 BBBC CCCC" "0064") 1 "0002 BBBC"
    -- a later one that fails, or is refused, leaves it
    ∷ step (greets "0045" "0001 AA" "0068") 0 "0002 BBBC"
    ∷ step (denied (init 0 "0045" "0001 AA") LongSection) 0 "0002 BBBC"
    -- "A later Init that gets 100 replaces it": by a longer one, by a shorter one, by none
    ∷ step (greets "0049" "0005 0102030405" "0064") 1 "0005 0102030405"
    ∷ step (greets "0045" "0001 AA" "0064") 1 "0001 AA"
    ∷ step (greets "0044" "0000" "0064") 1 "0000"
    ∷ step (greets "0045" "0001 DD" "0064") 1 "0001 DD"
    -- other messages, and other calls, whatever they write
    ∷ step (heard (says 0 "000A 0000 FFFF FFFF")
    "5200 000B 0023 0064 FFFF 43483100 00000000 00000000 00000000 00000000 00000000 00000000 00000000 0001 DD") 0 "0001 DD"
    ∷ step (heard (says 0 "0005 0008 FFFF FFFF 00000000 00000000")
    "5200 0006 0010 0064 FFFF 00000001 FFFFFFFF 00000000 00000000") 0 "0001 DD"
    ∷ step (heard (says 0 "000E 0004 FFFF FFFF 00000001") "5200 000F 0004 0064 FFFF 00000001 5200 0008 0004 0074 FFFF 00000001") 0 "0001 DD"
    ∷ step (silent (says 0 "0000 0000 FFFF FFFF")) 0 "0001 DD"
    ∷ step (silent (till 9000)) 0 "0001 DD"
    ∷ step (silent (ticks 1 0 4096)) 0 "0001 DD"
    ∷ step (silent (cues [] 0 0 0 4096)) 0 "0001 DD"
    -- a refused close and another connection's close do not forget, its own does; an open finds nothing
    ∷ step (denied (closes 0 4095) NoRoom) 0 "0001 DD"
    ∷ step (silent (closes 2 4096)) 0 "0001 DD"
    ∷ step (heard (closes 0 4096) "5200 0008 0004 0074 FFFF 00000002") 1 "0000"
    ∷ step (denied (init 0 "0045" "0001 EE") NotOpen) 0 "0000"
    ∷ step (silent (opens 0)) 0 "0000"
    ∷ step (greets "0045" "0001 EE" "0064") 1 "0001 EE"
    -- no card writes these: an Init_Response 100 in an answer of two, or of a call that is no message
    ∷ step (record { call = init 0 "0045" "0001 FF"; reply = wrote (answers "00" "0064" ++ answers "00" "0064") }) 0 "0001 EE"
    ∷ step (record { call = till 9009; reply = wrote (answers "00" "0064") }) 0 "0001 EE"
    ∷ step (record { call = opens 0; reply = wrote (answers "00" "0064") }) 0 "0001 EE"
    ∷ []

-- the events up to and with each call
points : List Event → List Step → List (List Event)
points h [] = []
points h (s ∷ l) = let g = h ++ (s.event ∷ []) in g ∷ points g l

kept : map (kept_told 0) (points [] steps) ≡ map (λ s. hex s.keeps) steps
unfolding name init answers greets step steps points telling
kept = refl

changing : map (λ s. bit (changed 0 s.event.call s.event.reply)) steps ≡ map (λ s. s.changes) steps
unfolding name init answers greets step steps telling
changing = refl

others : map (λ c. kept_told c (map (λ s. s.event) steps)) (1 ∷ 2 ∷ 3 ∷ []) ≡ hex "0003 111213" ∷ hex "0000" ∷ hex "0000" ∷ []
unfolding name init answers greets step steps telling
others = refl

-- the longest: 254 bytes behind the Length, 2 + 64 + 2 + 254 = 0x142; "up to 256 bytes with its Length"
longest : List Event
longest =
    record {
      call = messages 0 (hex "0001 0142 FFFF FFFF 0002" ++ (name ++ (replicate 32 0 ++ (hex "00FE" ++ replicate 254 0x55)))) (lending 4096);
      reply = wrote (answers "00" "0064");
    }
    ∷ []

kept-longest : kept_told 0 longest ≡ hex "00FE" ++ replicate 254 0x55
unfolding name answers longest telling
kept-longest = refl

-- ## The State of an Alive_Response, the first record

record State : Type 0 where
  bytes : String
  wants : ℕ

state : String → ℕ → State
state b n = record { bytes = b; wants = n }

states : List State
states =
    -- nothing on air, something on air; the SessionID is not the State
    state "5200 0006 0010 0064 FFFF 00000001 FFFFFFFF 00000000 00000000" 1
    ∷ state "5200 0006 0010 0064 FFFF 00000002 00000007 00000000 00000000" 2
    -- the first record; no answer; another one
    ∷ state "5200 0006 0010 0064 FFFF 00000002 00000007 00000000 00000000 5200 0006 0010 0064 FFFF 00000001 FFFFFFFF 00000000 00000000" 2
    ∷ state "" 0
    ∷ state "5200 0000 0000 0067 FFFF" 0
    ∷ state "5200 0008 0004 0064 FFFF 00000002" 0
    ∷ state "5200 000F 0004 0064 FFFF 00000002" 0
    ∷ state "5200 0009 000D 0064 FFFF 00000002 01 00000000 00000002" 0
    ∷ state "5200 0000 0000 0067 FFFF 5200 0006 0010 0064 FFFF 00000002 00000007 00000000 00000000" 0
    ∷ []

state-in : map (λ s. state_in (records_in (hex s.bytes))) states ≡ map (λ s. s.wants) states
unfolding state states telling
state-in = refl

-- ## The requests that the statements speak of

-- a message's MessageID and MessageSize, 1 more; 0 where it is none
id_of : Result Header Refusal → ℕ
id_of (Ok h) = suc h.id
id_of (Err n) = 0

size_of : Result Header Refusal → ℕ
size_of (Ok h) = suc h.size
size_of (Err n) = 0

lent : Loans
lent = lending 4096

-- connection 0 is initialised, 1 is open, 2 was never opened and 3 has closed
now : Splicer
now =
    after
    (opens 0 ∷ init 0 "0045" "0001 AA" ∷ opens 1 ∷ opens 3 ∷ init 3 "0044" "0000" ∷ closes 3 4096 ∷ [])
    (fresh name).splicer

ready : Ready 0 now
unfolding name init now telling
ready = refl

unready : (Ready 1 now → ⊥) × (Ready 2 now → ⊥) × (Ready 3 now → ⊥)
unfolding name init now telling
unready = (not-true false tt, not-true false tt, not-true false tt)

-- GetConfig_Request "(0x000A, no data)"; whatever is read behind it, and of a connection that is not open
config : List ℕ
config = hex "000A 0000 FFFF FFFF"

asks-config : AsksConfig 0 config lent now
unfolding config lent name init now telling each
asks-config = record { bytes = (small config tt, tt, tt); low = refl; roomy = refl; sections = refl; framed = refl }

asks-more : AsksConfig 3 (config ++ hex "0005 0008") lent now
unfolding config lent name init now telling each
asks-more = record { bytes = (small (config ++ hex "0005 0008") tt, tt, tt); low = refl; roomy = refl; sections = refl; framed = refl }

-- Alive_Request: time 8
alive : List ℕ
alive = hex "0005 0008 FFFF FFFF 00000000 00000000"

asks-alive : AsksAlive 0 alive lent now
unfolding alive lent name init now telling each
asks-alive = record { bytes = (small alive tt, tt, tt); low = refl; roomy = refl; sections = refl; framed = refl }

-- both sections may have 1,024 bytes
most : List ℕ
most = replicate 1024 0x47

long : List ℕ
long = replicate 1025 0x47

asks-long : AsksAlive 0 alive (lending_maps most most 4096) now
unfolding alive most lent name init now telling each
asks-long = record { bytes = (small alive tt, small most tt, small most tt); low = refl; roomy = refl; sections = refl; framed = refl }

-- not: connection 4, a buffer of 4,095, a section of 1,025, no byte, another message, data present, fewer than its bytes
no-config : (AsksConfig 4 config lent now → ⊥) × (AsksConfig 0 config (lending 4095) now → ⊥)
    × (AsksConfig 0 config (lending_maps long [] 4096) now → ⊥) × (AsksConfig 0 config (lending_maps [] long 4096) now → ⊥)
    × (AsksConfig 0 (config ++ (256 ∷ [])) lent now → ⊥) × (AsksConfig 0 alive lent now → ⊥)
    × (AsksConfig 0 (hex "000A 0001 FFFF FFFF 00") lent now → ⊥) × (AsksConfig 0 (hex "000A 0000 FFFF FF") lent now → ⊥)
unfolding long config alive lent name init now id_of size_of telling
no-config = (
  λ a. not-false true tt a.low,
  λ a. not-false true tt a.roomy,
  λ a. not-false true tt a.sections,
  λ a. not-false true tt a.sections,
  λ a. unordered 257 256 tt a.bytes.0.1.1.1.1.1.1.1.1.0,
  λ a. unlike 6 11 tt (ap id_of a.framed),
  λ a. unlike 2 1 tt (ap size_of a.framed),
  λ a. unlike 0 11 tt (ap id_of a.framed),
)

no-alive : (AsksAlive 0 config lent now → ⊥) × (AsksAlive 0 (hex "0005 0007 FFFF FFFF 00000000 000000") lent now → ⊥)
unfolding config alive lent name init now id_of size_of telling
no-alive = (λ a. unlike 11 6 tt (ap id_of a.framed), λ a. unlike 8 9 tt (ap size_of a.framed))
