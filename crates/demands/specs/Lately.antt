-- 02, CR 8: what ended lately, from calls and answer bytes alone.
use Rattle.std.specs.Prelude.{◌≡◌, Bool, false, cond, ◌&&◌, List, [], ◌∷◌, map, ℕ, eqb}
use Rattle.rules.specs.declared.Past.{Past}
use Rattle.rules.specs.Units.{to_ticks}
use Rattle.rules.specs.Lists.{keep, count}
use Rattle.rules.specs.State.{same_number}
use Rattle.rules.specs.Recent.{unused}
use Rattle.rules.specs.Records.{Record, General, InitResponse, AliveResponse, SpliceResponse, SpliceComplete, AbortResponse, CueRequest}
use Rattle.rules.specs.Records.{ConfigResponse, ExtendedFound, ExtendedNone}
use Rattle.rules.specs.Follows.ReadBack.{records_in}
use Rattle.rules.specs.Calls.{Call}
use Rattle.demands.specs.History.{is_end, Reply, refusal, wrote, Event, others_of, Entry, entry_is, event_told, book_replied, clock_replied}
use Rattle.demands.specs.Airing.{Airing, newest, aired_replied, air_time}

-- the end of a session, as it is told
pub record Told : Type 0 where
  pub conn : ℕ
  pub id : ℕ
  pub event : ℕ
  pub result : ℕ
  pub played : ℕ

-- the record is the end of a session, whichever
unfoldable pub is_an_end : Record → Bool
is_an_end (General c r) = false
is_an_end (InitResponse c r name) = false
is_an_end (AliveResponse c r state x t) = false
is_an_end (SpliceResponse c r x) = is_end c x (SpliceResponse c r x)
is_an_end (SpliceComplete c r x flag played) = is_end c x (SpliceComplete c r x flag played)
is_an_end (AbortResponse c r x) = false
is_an_end (CueRequest c a u l) = false
is_an_end (ConfigResponse c r n h m) = false
is_an_end (ExtendedFound c x event ended played) = false
is_an_end (ExtendedNone c x) = false

-- "SpliceEventID from the request that its connection last had accepted under that SessionID": es, the book
abbrev pub end_of : List Entry → (conn id result played : ℕ) → Told
end_of es c x r p = record { conn = c; id = x; event = event_told c x es; result = r; played = p }

-- 02, CR 13: of the session that connection c last accepted under the number x, the time on air by the clock now; ss: the sessions accepted
-- so far
abbrev pub time_so_far : ℕ → List Airing → ℕ → ℕ → ℕ
time_so_far now ss c x = air_time now ss (newest c x ss)

-- a Splice_Response shows no PlayedDuration: it is that of the time on air so far, n ninths, "0 if never on air"
abbrev pub unshown : ℕ → ℕ
unshown n = (to_ticks (record { 0 = n })).0

-- what the record of an end tells; another record tells none. on: the time on air of each session before the call
unfoldable pub told_in : List Entry → (on : ℕ → ℕ → ℕ) → Record → Told
told_in es on (General c r) = end_of es c 0 r 0
told_in es on (InitResponse c r name) = end_of es c 0 r 0
told_in es on (AliveResponse c r state x t) = end_of es c x r 0
told_in es on (SpliceResponse c r x) = end_of es c x r (unshown (on c x))
told_in es on (SpliceComplete c r x flag played) = end_of es c x r played
told_in es on (AbortResponse c r x) = end_of es c x r 0
told_in es on (CueRequest c a u l) = end_of es c 0 0 0
told_in es on (ConfigResponse c r n h m) = end_of es c 0 r 0
told_in es on (ExtendedFound c x event ended played) = end_of es c x 100 0
told_in es on (ExtendedNone c x) = end_of es c x 121 0

-- the ends among the records rs, in their order
abbrev pub ends_in : List Entry → (ℕ → ℕ → ℕ) → List Record → List Told
ends_in es on rs = map (told_in es on) (keep is_an_end rs)

-- ts, one after the other, in front of the older ones
unfoldable pub newer : List Told → List Told → List Told
newer [] l = l
newer (t ∷ ts) l = newer ts (t ∷ l)

-- the ends told by a call, newest first, before those of l: each record "that is not a Splice_Request's own answer"
unfoldable pub ended_replied : Call → Reply → List Entry → (ℕ → ℕ → ℕ) → List Told → List Told
ended_replied k (refusal n) es on l = l
ended_replied k (wrote b) es on l = newer (ends_in es on (others_of k (records_in b))) l

-- of a history behind the book es, the clock now, the sessions ss and the ends l
unfoldable pub ended_told : List Event → List Entry → ℕ → List Airing → List Told → List Told
ended_told [] es now ss l = l
ended_told (e ∷ h) es now ss l =
    let u = clock_replied e.call e.reply now in
    ended_told h (book_replied e.call e.reply es) u (aired_replied u e.call e.reply ss)
    (ended_replied e.call e.reply es (time_so_far now ss) l)

-- of a history from fresh on, the newest first
abbrev pub ends_told : List Event → List Told
ends_told h = ended_told h [] 0 [] []

-- of number x of connection c
abbrev pub of_number : ℕ → ℕ → Told → Bool
of_number c x t = same_number c x t.conn t.id

-- "answered with the asking connection's latest ended session of that number", "121 with the SessionID alone where none is kept": of the
-- ends l,
-- newest first
unfoldable pub answer_told : ℕ → ℕ → List Told → Record
answer_told c x [] = ExtendedNone c x
answer_told c x (t ∷ l) = cond (of_number c x t) (ExtendedFound c x t.event t.result t.played) (answer_told c x l)

-- the accepted sessions of number x of connection c that have had their end
abbrev pub ended_once : ℕ → ℕ → List Entry → ℕ
ended_once c x es = count (λ e. entry_is c x e && eqb e.ends 1) es

-- ## Kept as told

pub record As (e : Past) (t : Told) : Type 0 where
  pub conn : e.conn ≡ t.conn
  pub id : e.id ≡ t.id
  pub event : e.event ≡ t.event
  pub result : e.result ≡ t.result
  pub played : e.played ≡ t.played

-- each as its own of l tells, as far as both go; where fewer are told, unused
abbrev pub KeptAs : List Past → List Told → Type 0
KeptAs [] l = Unit {0}
KeptAs (e ∷ es) [] = (e ≡ unused) × KeptAs es []
KeptAs (e ∷ es) (t ∷ l) = As e t × KeptAs es l
