-- What the program makes of a record that it has read, and what it writes for it.
use Rattle.std.specs.Prelude.{Option, None, Some, Ok, Err}
use Rattle.std.specs.Prelude.{◌≡◌, Bool, cond, ◌&&◌, List, [], ◌∷◌, ℕ, ◌≤◌, eqb, leb, ltb, length, get_or, take}
use Rattle.rules.specs.Bytes.{field, largest_size, written}
use Rattle.rules.specs.Calls.{Call, messages}
use Rattle.rules.specs.HouseNumbers.{refused}
use Rattle.rules.specs.Card.{open_mark, close_mark, message_mark, tick_mark, conn_in, message_from, mark_end, header_end}
use Rattle.rules.specs.Card.{card_loans, told}
use Rattle.recall_log.specs.declared.Record.{Record}
use Rattle.recall_log.specs.declared.Record.TheVariants.{Open, Close, Message, Tick}
use Rattle.recall_log.specs.declared.Refused.TheVariants.{Full, Rule}
use Rattle.recall_log.specs.Kept.{Reply, record_in, call_of, number_of}
use Rattle.recall.specs.Recall.{recall_call}

-- the call of the record that l begins with; "at a message header with MessageSize above 4,088 it makes the call": what begins no record is
-- handed on as a message
unfoldable pub made_of : Option Record → List ℕ → Call
made_of (Some (Open c)) l = call_of (Some (Open c)) l
made_of (Some (Close c)) l = call_of (Some (Close c)) l
made_of (Some (Message c size)) l = call_of (Some (Message c size)) l
made_of (Some (Tick seconds micros)) l = call_of (Some (Tick seconds micros)) l
made_of None l = messages (conn_in l) (message_from l) card_loans

unfoldable pub call_for : List ℕ → Call
call_for l = made_of (record_in l) l

-- "It writes each call's output; a refusal is 0x45 and the number."
unfoldable pub said : Reply → (shows : List ℕ) → List ℕ
said (Err Full) shows = 0x45 ∷ number_of (Err Full) ∷ []
said (Err (Rule n)) shows = told (refused n)
said (Ok did) shows = shows

unfoldable pub said_length : Reply → ℕ
said_length (Err Full) = 2
said_length (Err (Rule n)) = 2
said_length (Ok did) = did.written

-- behind the call, whose own output stands in the buffer e: only a refusal's bytes are still to be written
pub record Says (r : Reply) (e : List ℕ) (len : ℕ) (o : List ℕ) : Type 0 where
  pub count : len ≡ said_length r
  pub bytes : o ≡ written e 0 (said r [])

-- the record l was played from the log g: n bytes of the buffer o are to be written
pub record Plays (g l : List ℕ) (n : ℕ) (m o : List ℕ) : Type 0 where
  pub log : m ≡ (recall_call (call_for l) g).log
  pub output : take n o ≡ said (recall_call (call_for l) g).told.reply (recall_call (call_for l) g).told.shows
  pub within : n ≤ length o

-- ## What is read, and when it stops

-- the bytes of a record as far as its mark tells; 0: "It stops at .. another mark"
abbrev pub head_of : ℕ → ℕ
head_of mark =
    cond (eqb mark open_mark) mark_end
    (cond (eqb mark close_mark) mark_end
    (cond (eqb mark message_mark) header_end
    (cond (eqb mark tick_mark) header_end 0)))

-- "at a message header with MessageSize above 4,088 it makes the call, writes the refusal and stops"
abbrev pub ends_with : List ℕ → Bool
ends_with l = leb header_end (length l) && (eqb (get_or l 0 0) message_mark && ltb largest_size (field 4 2 l))
