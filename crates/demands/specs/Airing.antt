-- 02, CR 13: who owned each ninth, from calls and answer bytes alone.
use Rattle.std.specs.Prelude.{Bool, true, false, cond, not, ◌&&◌, ◌||◌, List, [], ◌∷◌, ℕ, zero, suc, ◌+◌, max, min, eqb, leb, ltb}
use Rattle.rules.specs.declared.Start.{Start}
use Rattle.rules.specs.declared.Start.TheVariants.{Timed, Linked}
use Rattle.rules.specs.declared.Message.{Message}
use Rattle.rules.specs.declared.Message.TheVariants.{Init, Alive, Splice, Abort, Config, Extended}
use Rattle.rules.specs.Units.{from_micros, from_ticks}
use Rattle.rules.specs.Lists.{bit, some, put}
use Rattle.rules.specs.Request.{session_id, read_splice}
use Rattle.rules.specs.Follows.ReadBack.{data_in}
use Rattle.rules.specs.State.{same_number}
use Rattle.rules.specs.Records.{Record, General, InitResponse, AliveResponse, SpliceResponse, SpliceComplete, AbortResponse, ConfigResponse}
use Rattle.rules.specs.Records.{ExtendedFound, ExtendedNone, CueRequest}
use Rattle.rules.specs.Follows.ReadBack.{records_in}
use Rattle.rules.specs.Calls.{Call, opens, closes, messages, ticks, moves, cues}
use Rattle.demands.specs.History.{Reply, refusal, wrote, Event, is_start, is_end, granted_in, others_in, clock_replied, clock_after}
use Rattle.std.specs.declared.option.Option.{Option}
use Rattle.std.specs.declared.option.Option.TheVariants.{Some, None}

-- ## Sessions as calls and answers tell them

-- an accepted session: its AccessType, start and end are the request's; begun: its start was written; over: its end was written, and
-- if it had begun it was over at the time `to` (which means nothing for one that never began); listed: that end was a SpliceComplete flag
-- 1,
-- and said its PlayedDuration
pub record Airing : Type 0 where
  pub conn : ℕ
  pub id : ℕ
  pub access : ℕ
  pub start : ℕ
  pub end : ℕ
  pub begun : Bool
  pub over : Bool
  pub to : ℕ
  pub listed : Bool
  pub said : ℕ

abbrev pub airing_is : ℕ → ℕ → Airing → Bool
airing_is c x a = same_number a.conn a.id c x

-- what stands where nobody was accepted
abbrev pub nobodys : Airing
nobodys = record { conn = 0; id = 0; access = 0; start = 0; end = 0; begun = false; over = true; to = 0; listed = false; said = 0 }

-- "the session that its connection last accepted under that SessionID"
unfoldable pub newest : ℕ → ℕ → List Airing → Airing
newest c x [] = nobodys
newest c x (a ∷ es) = cond (airing_is c x a) a (newest c x es)

-- ## What a record tells of it

-- its start was written
abbrev pub begins : Airing → Airing
begins a =
    record {
      conn = a.conn;
      id = a.id;
      access = a.access;
      start = a.start;
      end = a.end;
      begun = true;
      over = a.over;
      to = a.to;
      listed = a.listed;
      said = a.said;
    }

-- a SpliceComplete flag 1, and its PlayedDuration
unfoldable pub lists : Record → Bool
lists (General c r) = false
lists (InitResponse c r n) = false
lists (AliveResponse c r a y t) = false
lists (SpliceResponse c r y) = false
lists (SpliceComplete c r y f d) = eqb f 1
lists (AbortResponse c r y) = false
lists (CueRequest c a u l) = false
lists (ExtendedFound c y event ended played) = false
lists (ExtendedNone c y) = false
lists (ConfigResponse c r n h m) = false

unfoldable pub says_played : Record → ℕ
says_played (General c r) = 0
says_played (InitResponse c r n) = 0
says_played (AliveResponse c r a y t) = 0
says_played (SpliceResponse c r y) = 0
says_played (SpliceComplete c r y f d) = d
says_played (AbortResponse c r y) = 0
says_played (CueRequest c a u l) = 0
says_played (ExtendedFound c y event ended played) = 0
says_played (ExtendedNone c y) = 0
says_played (ConfigResponse c r n h m) = 0

-- its end r was written, by the time t at the latest
abbrev pub ends : ℕ → Record → Airing → Airing
ends t r a =
    record {
      conn = a.conn;
      id = a.id;
      access = a.access;
      start = a.start;
      end = a.end;
      begun = a.begun;
      over = true;
      to = min a.end t;
      listed = lists r;
      said = says_played r;
    }

abbrev pub marked : ℕ → Record → Airing → Airing
marked t r a = cond (is_start a.conn a.id r) (begins a) (cond (is_end a.conn a.id r) (ends t r a) a)

abbrev pub concerns : Record → Airing → Bool
concerns r a = is_start a.conn a.id r || is_end a.conn a.id r

-- it counts for the newest of its number
unfoldable pub heard : ℕ → Record → List Airing → List Airing
heard t r [] = []
heard t r (a ∷ es) = cond (concerns r a) (marked t r a ∷ es) (a ∷ heard t r es)

-- the time by which what stands before the records rs was written, at the latest: the start of the first session with a flag 0 among them,
-- or u, the clock after the call
unfoldable pub by_then : ℕ → List Airing → List Record → ℕ
by_then u es [] = u
by_then u es (General c r ∷ rs) = by_then u es rs
by_then u es (InitResponse c r n ∷ rs) = by_then u es rs
by_then u es (AliveResponse c r a y t ∷ rs) = by_then u es rs
by_then u es (SpliceResponse c r y ∷ rs) = by_then u es rs
by_then u es (SpliceComplete c r y f d ∷ rs) = cond (eqb f 0) (newest c y es).start (by_then u es rs)
by_then u es (AbortResponse c r y ∷ rs) = by_then u es rs
by_then u es (CueRequest c a v l ∷ rs) = by_then u es rs
by_then u es (ExtendedFound c y event ended played ∷ rs) = by_then u es rs
by_then u es (ExtendedNone c y ∷ rs) = by_then u es rs
by_then u es (ConfigResponse c r n h m ∷ rs) = by_then u es rs

-- the records of an answer, one after another
unfoldable pub heard_all : ℕ → List Record → List Airing → List Airing
heard_all u [] es = es
heard_all u (r ∷ rs) es = heard_all u rs (heard (by_then u es rs) r es)

-- ## A session that is accepted

unfoldable pub start_asked : ℕ → Start → List Airing → ℕ
start_asked c (Timed t) es = (from_micros t).0
start_asked c (Linked p) es = (newest c p es).end

-- accepted, with an AccessType, a start and an end
abbrev pub granted : (conn id access start end : ℕ) → Airing
granted c x a t e = record {
  conn = c;
  id = x;
  access = a;
  start = t;
  end = e;
  begun = false;
  over = false;
  to = 0;
  listed = false;
  said =
      0;
}

-- the session that a Splice_Request asks for: "End is start plus Duration"
unfoldable pub airing_asked : ℕ → ℕ → Option Message → List Airing → Airing
airing_asked c x (Some (Init revision)) es = granted c x 0 0 0
airing_asked c x (Some Alive) es = granted c x 0 0 0
airing_asked c x (Some (Splice r)) es =
    let t = start_asked c r.start es in
    granted c x r.access t (t + (from_ticks r.duration).0)
airing_asked c x (Some (Abort y)) es = granted c x 0 0 0
airing_asked c x (Some (Extended y)) es = granted c x 0 0 0
airing_asked c x (Some Config) es = granted c x 0 0 0
airing_asked c x None es = granted c x 0 0 0

-- the answer to a message l of connection d. A Splice_Request's own answer is no end
unfoldable pub aired_answered : ℕ → ℕ → List ℕ → List Record → List Airing → List Airing
aired_answered u d l rs es =
    put (granted_in d l rs) (airing_asked d (session_id (data_in l)) (read_splice (data_in l)) es) (heard_all u (others_in l rs) es)

unfoldable pub aired_after : ℕ → Call → List Record → List Airing → List Airing
aired_after u (opens d) rs es = heard_all u rs es
aired_after u (closes d room) rs es = heard_all u rs es
aired_after u (messages d l loans) rs es = aired_answered u d l rs es
aired_after u (ticks seconds micros room) rs es = heard_all u rs es
aired_after u (moves until room) rs es = heard_all u rs es
aired_after u (cues l pts seconds micros room) rs es = heard_all u rs es

-- u: the clock after the call
unfoldable pub aired_replied : ℕ → Call → Reply → List Airing → List Airing
aired_replied u k (refusal n) es = es
aired_replied u k (wrote l) es = aired_after u k (records_in l) es

-- the accepted sessions of a history, the newest first, from the clock now
unfoldable pub airings : List Event → ℕ → List Airing → List Airing
airings [] now es = es
airings (e ∷ h) now es =
    let u = clock_replied e.call e.reply now in
    airings h u (aired_replied u e.call e.reply es)

-- ## Time in which

-- of the first c ninths, those in which p holds
unfoldable pub during : ℕ → (ℕ → Bool) → ℕ
during zero p = 0
during (suc c) p = during c p + bit (p c)

-- started and unended, in the ninth that begins at n
abbrev pub live_at : ℕ → Airing → Bool
live_at n a = (a.begun && leb a.start n) && (not a.over || ltb n a.to)

-- one more than the highest AccessType of those started and unended; 0 with none
abbrev pub peak_at : ℕ → List Airing → ℕ
peak_at n [] = 0
peak_at n (a ∷ l) = max (cond (live_at n a) (suc a.access) 0) (peak_at n l)

-- "the time in which no session was started and unended"
unfoldable pub primary_time : ℕ → List Airing → ℕ
primary_time c l = during c (λ n. not (some (live_at n) l))

-- "the time in which it had the highest AccessType of those started and unended"
abbrev pub top_at : ℕ → List Airing → Airing → Bool
top_at n l a = live_at n a && eqb (peak_at n l) (suc a.access)

unfoldable pub air_time : ℕ → List Airing → Airing → ℕ
air_time c l a = during c (λ n. top_at n l a)

abbrev pub sum_by : {A : Type 0} → (A → ℕ) → List A → ℕ
sum_by f [] = 0
sum_by f (x ∷ m) = f x + sum_by f m

-- ## Of a history from fresh on

abbrev pub airings_told : List Event → List Airing
airings_told h = airings h 0 []

abbrev pub clock_told : List Event → ℕ
clock_told h = clock_after h 0

abbrev pub primary_told : List Event → ℕ
primary_told h = primary_time (clock_told h) (airings_told h)

-- a session's
abbrev pub time_told : List Event → Airing → ℕ
time_told h a = air_time (clock_told h) (airings_told h) a

-- all sessions'
abbrev pub air_told : List Event → ℕ
air_told h = sum_by (time_told h) (airings_told h)

-- that of the session which connection c last accepted under the number x
abbrev pub number_told : List Event → ℕ → ℕ → ℕ
number_told h c x = time_told h (newest c x (airings_told h))
