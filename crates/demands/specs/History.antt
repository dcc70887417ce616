-- Demand 3: a connection's waiting sessions, starts and ends, taken from calls and answer bytes alone.
use Rattle.std.specs.Prelude.{Bool, false, cond, not, ◌&&◌, ◌||◌, List, [], ◌∷◌, ℕ, ◌+◌, eqb, length, None, Option, Some}
use Rattle.rules.specs.declared.Refusal.{Refusal}
use Rattle.rules.specs.declared.Start.{Start}
use Rattle.rules.specs.declared.Start.TheVariants.{Timed, Linked}
use Rattle.rules.specs.declared.Message.{Message}
use Rattle.rules.specs.declared.Message.TheVariants.{Init, Alive, Splice, Abort, Config, Extended}
use Rattle.rules.specs.Units.{time_of, from_micros, from_ticks}
use Rattle.rules.specs.Lists.{put, keep, count}
use Rattle.rules.specs.Request.{session_id, read_splice}
use Rattle.rules.specs.Follows.ReadBack.{data_in, is_splice}
use Rattle.rules.specs.State.{Splicer, same_number}
use Rattle.rules.specs.Records.{Record, General, InitResponse, AliveResponse, SpliceResponse, SpliceComplete, AbortResponse, ConfigResponse}
use Rattle.rules.specs.Records.{ExtendedFound, ExtendedNone, CueRequest}
use Rattle.rules.specs.Follows.ReadBack.{records_in}
use Rattle.rules.specs.Splicing.{prior_of}
use Rattle.rules.specs.HouseNumbers.{Answer, refused, good, written_by}
use Rattle.rules.specs.Calls.{Call, opens, closes, messages, ticks, moves, cues, call}

-- ## Starts and ends among records

-- a SpliceComplete or a Splice_Response of number x of connection c, by a test of its result and flag, or of its result; no other record
-- tells of a session's course
abbrev pub tells : (completes : ℕ → ℕ → Bool) → (responds : ℕ → Bool) → ℕ → ℕ → Record → Bool
tells completes responds c x (General c' r) = false
tells completes responds c x (InitResponse c' r n) = false
tells completes responds c x (AliveResponse c' r a y t) = false
tells completes responds c x (SpliceResponse c' r y) = responds r && same_number c x c' y
tells completes responds c x (SpliceComplete c' r y f d) = completes r f && same_number c x c' y
tells completes responds c x (AbortResponse c' r y) = false
tells completes responds c x (CueRequest c' a u l) = false
tells completes responds c x (ExtendedFound c' y event ended played) = false
tells completes responds c x (ExtendedNone c' y) = false
tells completes responds c x (ConfigResponse c' r n h m) = false

-- the start of number x of connection c: SpliceComplete flag 0, result 100
unfoldable pub is_start : ℕ → ℕ → Record → Bool
is_start c x r = tells (λ n flag. eqb flag 0 && eqb n 100) (λ n. false) c x r

-- the results of a Splice_Response that is an end: "109 (evicted, or its prior ended so or failed) or 116", 02: or 125 (its prior ended at
-- once by an equal one's start)
abbrev pub end_result : ℕ → Bool
end_result n = eqb n 109 || (eqb n 116 || eqb n 125)

-- "A session's end is its SpliceComplete with flag 1, or its SpliceComplete with flag 0 and 109, or a Splice_Response 109
-- .. or 116"; of those "that isn't a Splice_Request's own answer" among a call's records: `others_of`
unfoldable pub is_end : ℕ → ℕ → Record → Bool
is_end c x r = tells (λ n flag. eqb flag 1 || (eqb flag 0 && eqb n 109)) end_result c x r

-- the Splice_Response 100 to number x of connection c
unfoldable pub is_yes : ℕ → ℕ → Record → Bool
is_yes c x r = tells (λ n flag. false) (λ n. eqb n 100) c x r

abbrev pub starts_of : ℕ → ℕ → List Record → ℕ
starts_of c x rs = count (is_start c x) rs

abbrev pub ends_of : ℕ → ℕ → List Record → ℕ
ends_of c x rs = count (is_end c x) rs

-- neither start nor end of number x of connection c is among rs
abbrev pub unmarked : ℕ → List Record → ℕ → Bool
unmarked c rs x = eqb (starts_of c x rs + ends_of c x rs) 0

-- ## Calls and their answers

pub data Reply : Type 0 where
  refusal : Refusal → Reply
  wrote : List ℕ → Reply

pub record Event : Type 0 where
  pub call : Call
  pub reply : Reply

abbrev pub reply_of : Answer → Reply
reply_of (refused n) = refusal n
reply_of (good consumed rs) = wrote (written_by (good consumed rs))

-- the calls ks from the splicer s, each with its answer
unfoldable pub history : List Call → Splicer → List Event
history [] s = []
history (k ∷ ks) s = record { call = k; reply = reply_of (call k s).answer } ∷ history ks (call k s).splicer

-- ## A Splice_Request's own answer: the last record of its call

module _ {A : Type 0} where
  -- all but the last
  unfoldable pub front : List A → List A
  front [] = []
  front (x ∷ []) = []
  front (x ∷ y ∷ l) = x ∷ front (y ∷ l)

  -- the last passes the test
  unfoldable pub last : (A → Bool) → List A → Bool
  last p [] = false
  last p (x ∷ []) = p x
  last p (x ∷ y ∷ l) = last p (y ∷ l)

-- it passes the test; rs: the records of the call
abbrev pub own_answer : (Record → Bool) → List Record → Bool
own_answer p rs = last p rs

-- the other records of the call of a message l
abbrev pub others_in : List ℕ → List Record → List Record
others_in l rs = cond (is_splice l) (front rs) rs

-- and of any call
unfoldable pub others_of : Call → List Record → List Record
others_of (opens c) rs = rs
others_of (closes c room) rs = rs
others_of (messages c l loans) rs = others_in l rs
others_of (ticks seconds micros room) rs = rs
others_of (moves until room) rs = rs
others_of (cues l pts seconds micros room) rs = rs

-- ## The waiting sessions of a connection: "accepted since it was opened, less those whose start or end was written"

-- the message l of connection d is a Splice_Request, and its own answer is 100
abbrev pub granted_in : ℕ → List ℕ → List Record → Bool
granted_in d l rs = is_splice l && own_answer (is_yes d (session_id (data_in l))) rs

-- the numbers of c that wait after a message l of connection d, if those of w did before
unfoldable pub wait_answered : ℕ → ℕ → List ℕ → List Record → List ℕ → List ℕ
wait_answered c d l rs w = put (granted_in d l rs && eqb c d) (session_id (data_in l)) (keep (unmarked c (others_in l rs)) w)

unfoldable pub wait_after : ℕ → Call → List Record → List ℕ → List ℕ
wait_after c (opens d) rs w = cond (eqb c d) [] w
wait_after c (closes d room) rs w = keep (unmarked c rs) w
wait_after c (messages d l loans) rs w = wait_answered c d l rs w
wait_after c (ticks seconds micros room) rs w = keep (unmarked c rs) w
wait_after c (moves until room) rs w = keep (unmarked c rs) w
wait_after c (cues l pts seconds micros room) rs w = keep (unmarked c rs) w

unfoldable pub wait_replied : ℕ → Call → Reply → List ℕ → List ℕ
wait_replied c k (refusal n) w = w
wait_replied c k (wrote l) w = wait_after c k (records_in l) w

unfoldable pub waiting_told : ℕ → List Event → List ℕ → List ℕ
waiting_told c [] w = w
waiting_told c (e ∷ h) w = waiting_told c h (wait_replied c e.call e.reply w)

-- how many of connection c's sessions wait, from the answers
unfoldable pub waiting_count : ℕ → List Event → ℕ
waiting_count c h = length (waiting_told c h [])

-- ## The sessions accepted, the newest first

-- connection, number and end time, what it asked of the multiplexer (02, CR 5), its SpliceEventID (02, CR 8), its PriorSession, 0xFFFFFFFF
-- for a timed one, and OverridePlaying, the ends written for it, and whether its connection has closed since
pub record Entry : Type 0 where
  pub conn : ℕ
  pub id : ℕ
  pub end : ℕ
  pub mux : ℕ
  pub event : ℕ
  pub prior : ℕ
  pub overrides : ℕ
  pub ends : ℕ
  pub closed : Bool

abbrev pub entry_is : ℕ → ℕ → Entry → Bool
entry_is c x e = same_number c x e.conn e.id

abbrev pub with_ends : List Record → Entry → Entry
with_ends rs e =
    record {
      conn = e.conn;
      id = e.id;
      end = e.end;
      mux = e.mux;
      event = e.event;
      prior = e.prior;
      overrides = e.overrides;
      ends = e.ends + ends_of e.conn e.id rs;
      closed = e.closed;
    }

-- "It counts for the session that its connection last accepted under that SessionID, ended already or not."
unfoldable pub credited : List Record → List Entry → List Entry
credited rs [] = []
credited rs (e ∷ es) = with_ends rs e ∷ credited (keep (λ r. not (is_end e.conn e.id r)) rs) es

-- of the session last accepted under a number, what f says
unfoldable pub last_told : (Entry → ℕ) → ℕ → ℕ → List Entry → ℕ
last_told f c x [] = 0
last_told f c x (e ∷ es) = cond (entry_is c x e) (f e) (last_told f c x es)

-- its end
abbrev pub end_told : ℕ → ℕ → List Entry → ℕ
end_told c x es = last_told (λ e. e.end) c x es

-- 02, CR 5: what it asked of the multiplexer
abbrev pub mux_told : ℕ → ℕ → List Entry → ℕ
mux_told c x es = last_told (λ e. e.mux) c x es

-- 02, CR 8: its SpliceEventID
abbrev pub event_told : ℕ → ℕ → List Entry → ℕ
event_told c x es = last_told (λ e. e.event) c x es

-- the PriorSession and the OverridePlaying that were asked
abbrev pub prior_told : ℕ → ℕ → List Entry → ℕ
prior_told c x es = last_told (λ e. e.prior) c x es

abbrev pub overrides_told : ℕ → ℕ → List Entry → ℕ
overrides_told c x es = last_told (λ e. e.overrides) c x es

unfoldable pub start_told : ℕ → Start → List Entry → ℕ
start_told c (Timed t) es = (from_micros t).0
start_told c (Linked p) es = end_told c p es

-- the end that a message asks for: "End is start plus Duration"
unfoldable pub end_asked : ℕ → Option Message → List Entry → ℕ
end_asked c (Some (Init revision)) es = 0
end_asked c (Some Alive) es = 0
end_asked c (Some (Splice r)) es = start_told c r.start es + (from_ticks r.duration).0
end_asked c (Some (Abort x)) es = 0
end_asked c (Some (Extended x)) es = 0
end_asked c (Some Config) es = 0
end_asked c None es = 0

-- what a message asks of the multiplexer
unfoldable pub mux_asked : Option Message → ℕ
mux_asked (Some (Init revision)) = 0
mux_asked (Some Alive) = 0
mux_asked (Some (Splice r)) = r.mux
mux_asked (Some (Abort x)) = 0
mux_asked (Some (Extended x)) = 0
mux_asked (Some Config) = 0
mux_asked None = 0

-- the SpliceEventID of a message
unfoldable pub event_asked : Option Message → ℕ
event_asked (Some (Init revision)) = 0
event_asked (Some Alive) = 0
event_asked (Some (Splice r)) = r.event
event_asked (Some (Abort x)) = 0
event_asked (Some (Extended x)) = 0
event_asked (Some Config) = 0
event_asked None = 0

-- the PriorSession of a message
unfoldable pub prior_asked : Option Message → ℕ
prior_asked (Some (Init revision)) = 0
prior_asked (Some Alive) = 0
prior_asked (Some (Splice r)) = prior_of r.start
prior_asked (Some (Abort x)) = 0
prior_asked (Some (Extended x)) = 0
prior_asked (Some Config) = 0
prior_asked None = 0

-- the OverridePlaying of a message
unfoldable pub overrides_asked : Option Message → ℕ
overrides_asked (Some (Init revision)) = 0
overrides_asked (Some Alive) = 0
overrides_asked (Some (Splice r)) = r.overrides
overrides_asked (Some (Abort x)) = 0
overrides_asked (Some (Extended x)) = 0
overrides_asked (Some Config) = 0
overrides_asked None = 0

-- the entry of a Splice_Request with the data d
unfoldable pub entry_of : ℕ → List ℕ → List Entry → Entry
entry_of c d es =
    record {
      conn = c;
      id = session_id d;
      end = end_asked c (read_splice d) es;
      mux = mux_asked (read_splice d);
      event = event_asked (read_splice d);
      prior = prior_asked (read_splice d);
      overrides = overrides_asked (read_splice d);
      ends = 0;
      closed = false;
    }

unfoldable pub book_answered : ℕ → List ℕ → List Record → List Entry → List Entry
book_answered d l rs es = put (granted_in d l rs) (entry_of d (data_in l) es) (credited (others_in l rs) es)

-- connection d has closed
abbrev pub with_closed : ℕ → Entry → Entry
with_closed d e =
    record {
      conn = e.conn;
      id = e.id;
      end = e.end;
      mux = e.mux;
      event = e.event;
      prior = e.prior;
      overrides = e.overrides;
      ends = e.ends;
      closed = eqb d e.conn || e.closed;
    }

unfoldable pub shut : ℕ → List Entry → List Entry
shut d [] = []
shut d (e ∷ es) = with_closed d e ∷ shut d es

unfoldable pub book_after : Call → List Record → List Entry → List Entry
book_after (opens d) rs es = credited rs es
book_after (closes d room) rs es = shut d (credited rs es)
book_after (messages d l loans) rs es = book_answered d l rs es
book_after (ticks seconds micros room) rs es = credited rs es
book_after (moves until room) rs es = credited rs es
book_after (cues l pts seconds micros room) rs es = credited rs es

unfoldable pub book_replied : Call → Reply → List Entry → List Entry
book_replied k (refusal n) es = es
book_replied k (wrote l) es = book_after k (records_in l) es

-- the accepted sessions of a history
unfoldable pub book : List Event → List Entry → List Entry
book [] es = es
book (e ∷ h) es = book h (book_replied e.call e.reply es)

-- ## The clock: the time of the last good tick

unfoldable pub clock_replied : Call → Reply → ℕ → ℕ
clock_replied k (refusal n) now = now
clock_replied (opens c) (wrote l) now = now
clock_replied (closes c room) (wrote l) now = now
clock_replied (messages c m loans) (wrote l) now = now
clock_replied (ticks seconds micros room) (wrote l) now = (from_micros (time_of seconds micros)).0
clock_replied (moves until room) (wrote l) now = until
clock_replied (cues m pts seconds micros room) (wrote l) now = now

unfoldable pub clock_after : List Event → ℕ → ℕ
clock_after [] now = now
clock_after (e ∷ h) now = clock_after h (clock_replied e.call e.reply now)
