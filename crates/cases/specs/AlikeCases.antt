-- That the answers of two histories tell the same (demands' Alike): pairs that do, and for each thing told a pair that differs in it, from
-- the bytes of requests and answers. Worked by hand. Assumes nothing.
use Rattle.std.specs.Prelude.{refl, List, [], ◌∷◌, ◌++◌, ℕ, length, replicate}
use Rattle.std.proofs.Common.{ap}
use Prim.Native.String.{String}
use Rattle.rules.specs.declared.Refusal.TheVariants.{AlreadyOpen}
use Rattle.rules.specs.Calls.{opens, messages, cues}
use Rattle.rules.specs.HouseNumbers.{lending}
use Rattle.demands.specs.History.{Event, wrote, mux_told}
use Rattle.demands.specs.Airing.{newest}
use Rattle.demands.specs.Told
use Rattle.demands.specs.Lately
use Rattle.demands.specs.Lately.{Told}
use Rattle.demands.specs.Kept
use Rattle.demands.specs.Alike.{Alike}
use Rattle.cases.specs.Scenario.{hex}
use Rattle.cases.specs.Computing.{computing}
use Rattle.cases.specs.Heard.{heard, spoken, silent, denied, till, splice, unlike}

-- what the histories are computed with
unfoldable telling : ℕ
unfolding Told.started_replied Told.started_told Lately.is_an_end Lately.told_in Lately.newer Lately.ended_replied Lately.ended_told
    Kept.is_initialising Kept.initialises Kept.changes Kept.left Kept.changed Kept.kept_behind Kept.kept_told heard spoken silent denied
    till
    splice computing
telling = 0

-- 0's 1, a tick from 10 µs, is accepted, with AccessType 1 or 2
accepted : Event
accepted = heard (splice 0 "00000001 FFFFFFFF 00000000 0000000A" "00000001 00000000" "01 00") "5200 0008 0004 0064 FFFF 00000001"

higher : Event
higher = heard (splice 0 "00000001 FFFFFFFF 00000000 0000000A" "00000001 00000000" "02 00") "5200 0008 0004 0064 FFFF 00000001"

-- and with a muxpriority_descriptor
ranked : String → Event
ranked v =
    record {
      call = messages 0
          (hex "0007 0028 FFFF FFFF 00000001 FFFFFFFF 00000000 0000000A 0001 00000001 00000000 00000000 010001 0205 53415049" ++ hex v)
          (lending 4096);
      reply = wrote (hex "5200 0008 0004 0064 FFFF 00000001");
    }

start : String
start = "5200 0009 000D 0064 FFFF 00000001 00 00000000 00000000"

-- an Init_Request that gets 100; size: 66 and what stands behind the names
greets : (size behind : String) → Event
greets size h =
    record {
      call = messages 0 (hex "0001" ++ (hex size ++ (hex "FFFF FFFF 0002 43483100" ++ (replicate 60 0 ++ hex h)))) (lending 4096);
      reply = wrote (hex "5200 0002 0022 0064 FFFF 0002 43483100" ++ replicate 28 0);
    }

-- a cue that was passed on to two connections
cue : Event
cue =
    spoken (cues [] 0 0 0 4096)
    ("5200 000C 000B FFFF FFFF 00000001 00000002 FC3011" ∷ "5203 000C 000B FFFF FFFF 00000001 00000002 FC3011" ∷ [])

-- with a cue, with a refused call, with nothing
alike-cue : Alike [] (cue ∷ [])
unfolding cue telling
alike-cue =
    record { waiting = λ c. refl; book = refl; clock = refl; started = λ c x. refl; aired = refl; ended = refl; kept = λ c. refl }

alike-refused : Alike (accepted ∷ []) (accepted ∷ denied (opens 0) AlreadyOpen ∷ [])
unfolding accepted telling
alike-refused =
    record { waiting = λ c. refl; book = refl; clock = refl; started = λ c x. refl; aired = refl; ended = refl; kept = λ c. refl }

-- the result of the first end told; 0 where none is
result_in : List Told → ℕ
result_in [] = 0
result_in (t ∷ l) = t.result

-- 0's 1 ends before its start, with a result
gone : String → List Event
gone result = accepted ∷ record { call = till 50; reply = wrote (hex "5200 0008 0004" ++ (hex result ++ hex "FFFF 00000001")) } ∷ []

-- not: "accepted since it was opened"; another value for the multiplexer; another clock; a start more; another AccessType; another result
-- of an end; another Hardware_Config
alike-not : (Alike (accepted ∷ []) (accepted ∷ silent (opens 0) ∷ []) → ⊥) × (Alike (ranked "09" ∷ []) (ranked "03" ∷ []) → ⊥)
    × (Alike [] (silent (till 9) ∷ []) → ⊥)
    × (Alike (accepted ∷ heard (till 100) start ∷ []) (accepted ∷ spoken (till 100) (start ∷ start ∷ []) ∷ []) → ⊥)
    × (Alike (accepted ∷ []) (higher ∷ []) → ⊥)
    × (Alike (gone "006D") (gone "0074") → ⊥) × (Alike (greets "0045" "0001 AA" ∷ []) (greets "0046" "0002 AABB" ∷ []) → ⊥)
unfolding accepted higher ranked start greets gone result_in telling
alike-not = (
  λ a. unlike 0 1 tt (a.waiting 0),
  λ a. unlike 3 9 tt (ap (mux_told 0 1) a.book),
  λ a. unlike 9 0 tt a.clock,
  λ a. unlike 2 1 tt (a.started 0 1),
  λ a. unlike 2 1 tt (ap (λ l. (newest 0 1 l).access) a.aired),
  λ a. unlike 116 109 tt (ap result_in a.ended),
  λ a. unlike 4 3 tt (ap length (a.kept 0)),
)
