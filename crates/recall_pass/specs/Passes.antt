-- A pass over the calls in a log: what is carried from call to call stands for 01's pass over verdicts.
use Rattle.std.specs.Prelude.{Option, Result, Ok, Err, ◌≡◌, Bool, cond, List, ℕ, ◌+◌, ◌*◌, ◌≤◌, ◌<◌, take, set}
use Rattle.rules.specs.declared.Refusal.{Refusal}
use Rattle.rules.specs.declared.Refusal.TheVariants.{NoConnection, NoRoom, NotOpen, LongSection}
use Rattle.rules.specs.declared.Header.{Header}
use Rattle.rules.specs.Lists.{All}
use Rattle.rules.specs.Hardware.{hardware_in}
use Rattle.rules.specs.State.{Queue, Splicer}
use Rattle.rules.specs.Card.{card_name}
use Rattle.rules.specs.HouseNumbers.{no_connection, no_room, buffer_after}
use Rattle.rules.specs.Calls.{framing}
use Rattle.rules.specs.Units.{horizon}
use Rattle.rules.specs.Follows.Sound.{Sound}
use Rattle.recall_rules.specs.Verdicts.{Shows}
use Rattle.recall_rules.specs.Calls.{Pass, Answered, Called, not_open, answer, begun, passed}
use Rattle.recall_rows.specs.Rows.{width, Fits}
use Rattle.recall_ends.specs.Does.{all, Tells}
use Rattle.recall_instants.specs.Moments.{Keeps}
use Rattle.recall_answers.specs.declared.Carried.{Carried}
use Rattle.recall_answers.specs.declared.Effect.{Effect}
use Rattle.recall_answers.specs.declared.Effect.TheVariants.{Nothing, Joins, Enters, Configures}
use Rattle.recall_answers.specs.Replies.{pass_of, hardwares, Placed, effected, spoken, Left}
use Rattle.recall_log.specs.Log.{kept_calls}
use Rattle.recall_log.specs.declared.Refused.TheVariants.{Rule}
use Rattle.recall_log.specs.Kept.{Reply, reply_of}
use Rattle.recall_pass.specs.declared.Played.{Played}
use Rattle.recall_pass.specs.declared.Heard.{Heard}

-- ## What is carried

-- the words of the rows that hold verdicts
abbrev pub rows_of : Carried → (m : List ℕ) → List ℕ
rows_of h m = take (h.rows * width) m

-- the pass that is carried, over the log l and the words m
abbrev pub pass_in : (l : List ℕ) → Carried → (m : List ℕ) → Pass
pass_in l h m = pass_of (hardwares l h) h (rows_of h m)

-- connection c is that from now on
abbrev pub relinked : (c code : ℕ) → Carried → Carried
relinked c k h = record { clock = h.clock; links = set h.links c k; places = h.places; rows = h.rows }

-- its Hardware_Config stands there from now on
abbrev pub replaced : (c : ℕ) (place : Option ℕ) → Carried → Carried
replaced c p h = record { clock = h.clock; links = h.links; places = set h.places c p; rows = h.rows }

-- before the first call, whatever the log and the words hold
pub record Begins (h : Carried) (l m : List ℕ) : Type 0 where
  pub none : h.rows ≡ 0
  pub pass : pass_in l h m ≡ begun card_name
  pub placed : All (Placed l) h.places

abbrev pub BeginsAny : Carried → Type 0
BeginsAny h = (l m : List ℕ) → Begins h l m

-- what a call relies on: the verdicts show what is held at the clock
pub record Ready (h : Carried) (m : List ℕ) : Type 0 where
  pub fits : Fits h.rows m
  pub keeps : Keeps h.clock.0 (all (rows_of h m))
  pub clock : h.clock.0 < horizon

-- ## A call

-- over the log l, the call c leads from h to r: k, the words after it; it has one verdict more at most
pub record Leads (l : List ℕ) (h : Carried) (c : Called) (r : Carried) (k : List ℕ) : Type 0 where
  pub pass : pass_in l r k ≡ c.pass
  pub fits : Fits r.rows k
  pub few : r.rows ≤ h.rows + 1
  pub placed : All (Placed l) h.places → All (Placed l) r.places

-- what is carried on: a refusal "changes no state"
unfoldable pub carried_by : Carried → Result Played Refusal → Carried
carried_by h (Ok p) = p.carried
carried_by h (Err n) = h

-- what is answered
unfoldable pub replied : Result Played Refusal → Reply
replied (Ok p) = Ok p.did
replied (Err n) = Err (Rule n)

-- and its answer is given; e, o: the buffer before and after it
pub record Plays (l : List ℕ) (h : Carried) (c : Called) (e : List ℕ) (p : Result Played Refusal) (k o : List ℕ) : Type 0 where
  pub leads : Leads l h c (carried_by h p) k
  pub reply : replied p ≡ reply_of c.answer c.moved
  pub buffer : o ≡ buffer_after c.answer e

-- whatever stands in the log
abbrev pub PlaysAny : (Pass → Called) → Carried → (m e : List ℕ) → Result Played Refusal → (k o : List ℕ) → Type 0
PlaysAny f h m e p k o = (l : List ℕ) → Plays l h (f (pass_in l h m)) e p k o

-- a call that looks at no verdict, whatever the words hold
abbrev pub PlaysOver : (Pass → Called) → Carried → Result Played Refusal → Type 0
PlaysOver f h p = (m e : List ℕ) → Fits h.rows m → PlaysAny f h m e p m e

-- "close 1, 2, 7", "message 1, 2, 7"
unfoldable pub tested : (c room : ℕ) → Pass → Result (Unit {0}) Refusal
tested c room s = cond (no_connection c) (Err NoConnection) (cond (no_room room) (Err NoRoom) (cond (not_open c s) (Err NotOpen) (Ok tt)))

-- "message 1, 2, 7", 02's 10, "5 (header), 4, 5 (body)"; long: whether a section is
unfoldable pub framed : (c : ℕ) (l : List ℕ) (room : ℕ) (long : Bool) → Pass → Result Header Refusal
framed c l room long s =
    cond (no_connection c) (Err NoConnection)
    (cond (no_room room) (Err NoRoom)
    (cond (not_open c s) (Err NotOpen)
    (cond long (Err LongSection) (framing l))))

-- by the connections alone
abbrev pub TestsAny : (c room : ℕ) → Carried → Result (Unit {0}) Refusal → Type 0
TestsAny c room h r = (hardware : List (List ℕ)) (m : List ℕ) → r ≡ tested c room (pass_of hardware h m)

abbrev pub FramesAny : (c : ℕ) (l : List ℕ) (room : ℕ) (long : Bool) → Carried → Result Header Refusal → Type 0
FramesAny c l room long h r = (hardware : List (List ℕ)) (m : List ℕ) → r ≡ framed c l room long (pass_of hardware h m)

-- ## A message

-- the Hardware_Configs behind an answer
unfoldable pub kept_by : Effect → (c : ℕ) (d : List ℕ) → List (List ℕ) → List (List ℕ)
kept_by Nothing c d hs = hs
kept_by (Joins x) c d hs = hs
kept_by Enters c d hs = set hs c (hardware_in d)
kept_by Configures c d hs = hs

-- what was left to do is done: of the pass s with the words m, r and k
pub record Settles (c : ℕ) (d : List ℕ) (f : Effect) (hardware : List (List ℕ)) (h : Carried) (m : List ℕ) (r : Carried) (k : List ℕ) : Type
    0 where
  pub pass : pass_of (kept_by f c d hardware) r (rows_of r k) ≡ effected c d f (pass_of hardware h (rows_of h m))
  pub fits : Fits r.rows k
  pub few : r.rows ≤ h.rows + 1
  pub places : r.places ≡ h.places

abbrev pub SettlesAny : (c : ℕ) → Effect → Carried → (m : List ℕ) → Carried → (k : List ℕ) → Type 0
SettlesAny c f h m r k = (d : List ℕ) (hardware : List (List ℕ)) → Settles c d f hardware h m r k

-- the answer a in the pass s, but for GetConfig's record
pub record Hears (c : ℕ) (d section : List ℕ) (a : Answered) (s : Pass) (h : Carried) (e : List ℕ) (g : Heard) (k o : List ℕ) : Type 0 where
  pub pass : pass_of (kept_by g.effect c d s.hardware) g.carried (rows_of g.carried k) ≡ a.pass
  pub fits : Fits g.carried.rows k
  pub few : g.carried.rows ≤ h.rows + 1
  pub places : g.carried.places ≡ h.places
  pub tells : Tells e 0 (spoken g.effect a.written) g.len o
  pub left : Left g.effect c d section s a.written
  pub moved : g.moved ≡ a.moved

-- whatever the Hardware_Configs and the sections are
abbrev pub HearsAny : (c id : ℕ) (d : List ℕ) → Carried → (m e : List ℕ) → Heard → (k o : List ℕ) → Type 0
HearsAny c id d h m e g k o =
    (hardware : List (List ℕ)) (section : List ℕ)
    → Hears c d section (answer c id d section (pass_of hardware h (rows_of h m))) (pass_of hardware h (rows_of h m)) h e g k o

-- ## The pass over a log

-- the splicer of a pass; its primary sum is in no answer
abbrev pub splicer_of : Pass → (primary : ℕ) → Queue → Splicer
splicer_of s primary q =
    record { name = s.name; clock = s.clock; primary = primary; links = s.links; hardware = s.hardware; queue = q }

-- 01's laws hold of the splicer that the verdicts show: so they do from fresh and the calls since
pub record Steady (s : Pass) : Type 0 where
  pub primary : ℕ
  pub queue : Queue
  pub shows : Shows s.verdicts queue
  pub sound : Sound (splicer_of s primary queue)

-- behind all calls of the log l; there is a row for the present one
pub record Passed (l : List ℕ) (h : Carried) (m : List ℕ) : Type 0 where
  pub pass : pass_in l h m ≡ passed (kept_calls l) (begun card_name)
  pub steady : Steady (pass_in l h m)
  pub fits : Fits (h.rows + 1) m
  pub placed : All (Placed l) h.places
