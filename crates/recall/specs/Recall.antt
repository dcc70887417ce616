-- 02, CR 12: "works out each answer from the whole list by the rules of document 01 as amended, for the name "CH1"".
use Rattle.std.specs.Prelude.{Ok, Err, ◌≡◌, Bool, false, cond, ◌||◌, List, [], ◌∷◌, ◌++◌, ℕ, ◌-◌, leb, ltb, length, replicate}
use Rattle.rules.specs.Lists.{put}
use Rattle.rules.specs.Bytes.{padded, written}
use Rattle.rules.specs.State.{Splicer}
use Rattle.rules.specs.HouseNumbers.{Called, written_by}
use Rattle.rules.specs.Calls.{fresh, Call, call, after}
use Rattle.rules.specs.Card.{card_name}
use Rattle.recall_log.specs.declared.Refused.TheVariants.{Full}
use Rattle.recall_log.specs.Log.{kept_calls, log_length, most_calls, longest_record, other_length, full}
use Rattle.recall_log.specs.Kept.{Reply, kept_form, recorded, is_good, reply_of, unmoved, cleared, log_after}

-- the splicer of a fresh card
unfoldable pub begun : Splicer
begun = (fresh (padded card_name)).splicer

-- ## The calls

-- what a call answers, and the bytes that it writes at the start of the output buffer
pub record Told : Type 0 where
  pub reply : Reply
  pub shows : List ℕ

-- and the log after it
pub record Recalled : Type 0 where
  pub told : Told
  pub log : List ℕ

-- an answer of the rules
unfoldable pub told_by : Called → Told
told_by c = record { reply = reply_of c.answer c.moved; shows = written_by c.answer }

-- 13, "before all others": nothing changes
abbrev pub thirteen : List ℕ → Recalled
thirteen l = record { told = record { reply = Err Full; shows = [] }; log = l }

-- open, close, message and tick, handed the log l: any bytes
unfoldable pub recall_call : Call → List ℕ → Recalled
recall_call k l =
    let c = call k (after (kept_calls l) begun) in
    cond (full l) (thirteen l) (record { told = told_by c; log = log_after k c.answer l })

-- fresh: it forgets what is kept, so the length alone counts
unfoldable pub recall_fresh : List ℕ → Recalled
recall_fresh l = cond (other_length l) (thirteen l) (record { told = record { reply = Ok (unmoved 0); shows = [] }; log = cleared l })

-- ## What a call promises

-- handed the log l, any bytes, and a buffer that held e: the reply, and what the log and the buffer hold after it
pub record Remembers (k : Call) (l e : List ℕ) (r : Reply) (n o : List ℕ) : Type 0 where
  pub reply : r ≡ (recall_call k l).told.reply
  pub log : n ≡ (recall_call k l).log
  pub buffer : o ≡ written e 0 (recall_call k l).told.shows

pub record Forgets (l : List ℕ) (r : Reply) (n : List ℕ) : Type 0 where
  pub reply : r ≡ (recall_fresh l).told.reply
  pub log : n ≡ (recall_fresh l).log

-- ## Sequences of calls, "the log unchanged between calls"

-- what this engine tells from the log l on, and the log that it leaves
unfoldable pub recalls : List Call → List ℕ → List Told
recalls [] l = []
recalls (k ∷ ks) l = (recall_call k l).told ∷ recalls ks (recall_call k l).log

unfoldable pub log_left : List Call → List ℕ → List ℕ
log_left [] l = l
log_left (k ∷ ks) l = log_left ks (recall_call k l).log

-- "Until it first refuses with 13": the calls before that one
unfoldable pub before13 : List Call → List ℕ → List Call
before13 [] l = []
before13 (k ∷ ks) l = cond (full l) [] (k ∷ before13 ks (recall_call k l).log)

-- none of the calls got it
abbrev pub None13 : List Call → List ℕ → Type 0
None13 [] l = Unit {0}
None13 (k ∷ ks) l = (full l ≡ false) × None13 ks (recall_call k l).log

-- what the card tells from the splicer s on
unfoldable pub card_tells : List Call → Splicer → List Told
card_tells [] s = []
card_tells (k ∷ ks) s = told_by (call k s) ∷ card_tells ks (call k s).splicer

-- the good ones of its calls, in the form that is kept
unfoldable pub goods : List Call → Splicer → List Call
goods [] s = []
goods (k ∷ ks) s = put (is_good (call k s).answer) (kept_form k) (goods ks (call k s).splicer)

-- 256 are kept, or their records leave fewer than 4,098 bytes: counted from the calls and answers alone
unfoldable pub spent : List Call → Bool
spent ks = leb most_calls (length ks) || ltb (log_length - length (recorded ks)) longest_record

-- both told the same, byte for byte, and the log has the good calls, in their order, with zeros behind; l: the log after fresh
pub record LikeTheCard (ks : List Call) (l : List ℕ) : Type 0 where
  pub told : recalls ks l ≡ card_tells ks begun
  pub calls : kept_calls (log_left ks l) ≡ goods ks begun
  pub bytes : log_left ks l ≡ recorded (goods ks begun) ++ replicate (log_length - length (recorded (goods ks begun))) 0
