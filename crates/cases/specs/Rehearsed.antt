-- 01, "Rehearsed situations", P12 as in 02, CR 4: P1 to P14 in one table under one statement, worked through the calls, from the bytes of a
-- request to the records in the answer's bytes. A row also says how many sessions of each connection wait before its last call. Assumes
-- nothing.
use Rattle.std.specs.Prelude.{◌≡◌, refl, List, [], ◌∷◌, ◌++◌, map, ℕ, zero, suc, ◌+◌, ◌*◌, length, replicate}
use Rattle.rules.specs.declared.Session.{Session}
use Rattle.rules.specs.Bytes.{bytes, padded}
use Rattle.rules.specs.Request
use Rattle.rules.specs.Records
use Rattle.rules.specs.Records.{Record}
use Rattle.rules.specs.Follows.ReadBack.{records_in}
use Rattle.rules.specs.Splicing
use Rattle.rules.specs.Calls
use Rattle.rules.specs.HouseNumbers
use Rattle.rules.specs.Calls.{Call, opens, messages, ticks, call}
use Rattle.rules.specs.HouseNumbers.{Called}
use Rattle.rules.specs.Card
use Rattle.cases.specs.Computing.{computing}

-- ## Messages

-- a message: MessageID, MessageSize, both Result fields 0xFFFF, and the data
unfoldable pub sent : ℕ → List ℕ → List ℕ
sent id d = bytes 2 id ++ (bytes 2 (length d) ++ (bytes 4 0xFFFFFFFF ++ d))

-- a message of connection c, with room enough for the answer
unfoldable pub from : ℕ → ℕ → List ℕ → Call
from c id d = messages c (sent id d) Card.card_loans

-- Init_Request: Revision_Num 2, "CH1", an empty SplicerName, and two bytes more
unfoldable pub init_of : ℕ → Call
init_of c = from c 0x0001 (bytes 2 2 ++ (padded Card.card_name ++ (replicate 32 0 ++ bytes 2 0)))

-- a Splice_Request's data: number, PriorSession, time, AccessType, OverridePlaying, Duration; ServiceID 1
unfoldable pub asks : (id prior seconds micros access over duration : ℕ) → List ℕ
asks x p s u a o d =
    bytes 4 x ++ (bytes 4 p ++ (bytes 4 s ++ (bytes 4 u ++ (bytes 2 1
    ++ (bytes 4 d ++ (bytes 4 0xFFFFFFFF ++ (bytes 4 0 ++ (a ∷ o ∷ 1 ∷ []))))))))

unfoldable pub timed : (conn id seconds micros access over duration : ℕ) → Call
timed c x s u a o d = from c 0x0007 (asks x Request.nobody s u a o d)

unfoldable pub linked : (conn id prior duration : ℕ) → Call
linked c x p d = from c 0x0007 (asks x p 0 0 1 0 d)

unfoldable pub aborts : ℕ → ℕ → Call
aborts c x = from c 0x000E (bytes 4 x)

unfoldable pub to : ℕ → ℕ → Call
to s u = ticks s u 4096

-- ## What a row looks at

-- the splicer "CH1", fresh
unfoldable pub card : Called
card = Calls.fresh (padded Card.card_name)

-- the last of some calls
unfoldable pub plays : List Call → Called → Called
plays [] r = r
plays (k ∷ ks) r = plays ks (call k r.splicer)

-- what a row looks at: the records in the bytes that the last call wrote, or numbers of the state after it
pub data Seen : Type 0 where
  wrote : List Record → Seen
  holds : List ℕ → Seen

said : Called → Seen
said r = wrote (records_in (HouseNumbers.written_by r.answer))

-- the ends of the waiting sessions
ends : Called → Seen
ends r = holds (map (λ (s : Session). s.end.0) r.splicer.queue.waiting)

-- the numbers of the started sessions: on air, then covered
air : Called → Seen
air r = holds (map (λ (s : Session). s.id) r.splicer.queue.started)

-- each connection's waiting sessions
waiting_four : Called → List ℕ
waiting_four r = map (λ c. Splicing.waits c r.splicer.queue.waiting) (0 ∷ 1 ∷ 2 ∷ 3 ∷ [])

-- P: the number of the situation; waiting: the four counts that the calls before have given, which its premise speaks of
record Row : Type 0 where
  P : ℕ
  before : List Call
  waiting : List ℕ
  last : Call
  sees : Called → Seen
  wants : Seen

row : ℕ → List Call → List ℕ → Call → (Called → Seen) → Seen → Row
row n ks w k f x = record { P = n; before = ks; waiting = w; last = k; sees = f; wants = x }

-- ## The table

unfoldable pub up : ℕ → List Call
up c = opens c ∷ init_of c ∷ []

-- "Clock 1,000 s, connection 0 initialised, other fields good."
unfoldable pub ready : List Call
ready = up 0 ++ (up 1 ++ (up 2 ++ (up 3 ++ (to 1000 0 ∷ []))))

-- n waiting for connection c
unfoldable pub load : ℕ → ℕ → List Call
load c zero = []
load c (suc n) = timed c n (2000 + (100 * c + n)) 0 1 0 90000 ∷ load c n

unfoldable pub queued : ℕ → ℕ → ℕ → ℕ → List Call
queued a b c d = load 0 a ++ (load 1 b ++ (load 2 c ++ load 3 d))

new : Call
new = timed 0 99 1003 0 1 0 90000

four : (a b c d : ℕ) → List ℕ
four a b c d = a ∷ b ∷ c ∷ d ∷ []

-- a spot of 30 s with AccessType 3 at 1,003 s, and the clock at a time
shown : ℕ → ℕ → List Call
shown s u = timed 0 3 1003 0 3 0 2700000 ∷ to s u ∷ []

-- a 4 on air from 1,003 s, and for 1,006 s a waiting one with an AccessType and OverridePlaying
against : ℕ → ℕ → List Call
against a o = timed 0 4 1003 0 4 0 2700000 ∷ to 1003 0 ∷ timed 0 5 1006 0 a o 90000 ∷ []

-- Splice_Response and SpliceComplete_Response of connection 0, and its Abort_Response
responds : (result id : ℕ) → Record
responds r x = Records.SpliceResponse 0 r x

completes : (result id flag played : ℕ) → Record
completes r x f d = Records.SpliceComplete 0 r x f d

-- the answer to an abort of the one `shown`, with the ticks played
stopped : ℕ → Seen
stopped d = wrote (Records.AbortResponse 0 100 3 ∷ completes 116 3 1 d ∷ [])

table : List Row
table =
    row 1 [] (four 0 0 0 0) new said (wrote (responds 100 99 ∷ []))
    ∷ row 2 [] (four 0 0 0 0) (timed 0 99 1002 999999 1 0 90000) said (wrote (responds 112 99 ∷ []))
    ∷ row 3 (queued 9 20 20 14) (four 9 20 20 14) new said (wrote (responds 100 99 ∷ []))
    ∷ row 4 (queued 10 20 20 14) (four 10 20 20 14) new said (wrote (responds 114 99 ∷ []))
    ∷ row 5 (queued 19 0 0 0) (four 19 0 0 0) new said (wrote (responds 100 99 ∷ []))
    ∷ row 6 (queued 20 0 0 0) (four 20 0 0 0) new said (wrote (responds 114 99 ∷ []))
    ∷ row 7 (timed 0 3 1003 0 3 0 90000 ∷ []) (four 1 0 0 0) (timed 0 5 1003 0 5 0 90000) said
    (wrote (responds 109 3 ∷ responds 100 5 ∷ []))
    ∷ row 8 (timed 0 3 1003 0 3 0 90000 ∷ []) (four 1 0 0 0) (timed 0 5 1003 0 3 0 90000) said (wrote (responds 109 5 ∷ []))
    ∷ row 9 [] (four 0 0 0 0) (timed 0 3 1003 0 3 0 2700000) ends (holds (9297000000 ∷ []))
    ∷ row 10 (shown 1013 0) (four 0 0 0 0) (aborts 0 3) said (stopped 900000)
    ∷ row 11 (shown 1003 11) (four 0 0 0 0) (aborts 0 3) said (stopped 0)
    ∷ row 11 (shown 1003 12) (four 0 0 0 0) (aborts 0 3) said (stopped 1)
    ∷ row 12 (against 4 1) (four 1 0 0 0) (to 1006 0) said (wrote (completes 125 4 1 270000 ∷ completes 100 5 0 0 ∷ []))
    ∷ row 12 (against 4 1) (four 1 0 0 0) (to 1006 0) air (holds (5 ∷ []))
    ∷ row 13 (against 5 0) (four 1 0 0 0) (to 1006 0) said (wrote (completes 109 5 0 0 ∷ []))
    ∷ row 13 (against 5 0) (four 1 0 0 0) (to 1006 0) air (holds (4 ∷ []))
    ∷ row 14 (against 5 1) (four 1 0 0 0) (to 1006 0) said (wrote (completes 100 5 0 0 ∷ []))
    ∷ row 14 (against 5 1) (four 1 0 0 0) (to 1006 0) air (holds (5 ∷ 4 ∷ []))
    ∷ []

-- the four counts before the last call, and what is seen of it
shows : Row → List ℕ × Seen
shows r =
    let b = plays (ready ++ r.before) card in
    (waiting_four b, r.sees (call r.last b.splicer))

rehearsed : map shows table ≡ map (λ r. (r.waiting, r.wants)) table
unfolding sent from init_of asks timed aborts to card plays said ends air waiting_four row up ready load queued new four shown against
    responds completes stopped table shows computing
rehearsed = refl
