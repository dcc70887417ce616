-- 02, CR 12: what the program writes for its whole input, and what its own functions promise of one record and of all of them. That the
-- second is the first, whatever input is left unread, is the law `program-remembers` of proofs/Whole.
use Rattle.std.specs.Prelude.{◌≡◌, true, false, cond, List, [], ◌∷◌, ◌++◌, ℕ, zero, suc, ◌≤◌, ◌<◌, eqb, length, take, replicate}
use Rattle.rules.specs.Bytes.{largest_size}
use Rattle.rules.specs.Calls.{Call}
use Rattle.rules.specs.Card.{mark_end, message_end, Next, calls, ends, stops, next}
use Rattle.recall_log.specs.Log.{log_length}
use Rattle.recall.specs.Recall.{recall_call}
use Rattle.remember.specs.declared.Read.{Read}
use Rattle.remember.specs.declared.Stop.{Stop}
use Rattle.remember.specs.declared.Stop.TheVariants.{Over, Unwritten, Counted}
use Rattle.remember.specs.declared.stdio.Came.{Came}
use Rattle.standard_streams.specs.declared.Written.{Written}
use Rattle.remember.specs.Said.{call_for, said, ends_with}

-- ## The whole input: the card program's (rules' specs/Card), with the log in the splicer's place

-- what is written for the call k, with the log g
abbrev pub said_of : Call → List ℕ → List ℕ
said_of k g = said (recall_call k g).told.reply (recall_call k g).told.shows

-- what follows that: nothing, or what `on` gives of the log after it and the rest of the input; after 13 too
unfoldable pub remember_step : (List ℕ → List ℕ → List ℕ) → Next → List ℕ → List ℕ
remember_step on stops g = []
remember_step on (ends k) g = said_of k g
remember_step on (calls k l) g = said_of k g ++ on (recall_call k g).log l

-- n calls at most
unfoldable pub remember_run : ℕ → (g l : List ℕ) → List ℕ
remember_run zero g l = []
remember_run (suc n) g l = remember_step (remember_run n) (next l) g

-- each call takes two bytes or more, so there are fewer calls than bytes
unfoldable pub rest : (g l : List ℕ) → List ℕ
rest g l = remember_run (length l) g l

unfoldable pub fresh_log : List ℕ
fresh_log = replicate log_length 0

unfoldable pub remembered : List ℕ → List ℕ
remembered l = rest fresh_log l

-- the calls of the input l, n at most, that of an oversize header too
unfoldable pub made_from : (List ℕ → List Call) → Next → List Call
made_from on stops = []
made_from on (ends k) = k ∷ []
made_from on (calls k l) = k ∷ on l

unfoldable pub calls_of : ℕ → List ℕ → List Call
calls_of zero l = []
calls_of (suc n) l = made_from (calls_of n) (next l)

unfoldable pub input_calls : List ℕ → List Call
input_calls l = calls_of (length l) l

-- what is written for calls, one behind the other, from the log g on
unfoldable pub said_of_all : List Call → (g : List ℕ) → List ℕ
said_of_all [] g = []
said_of_all (k ∷ ks) g = said_of k g ++ said_of_all ks (recall_call k g).log

-- ## One record

-- c: what came of a record. It was filled up to the place `to` of a buffer, which held e and holds l now, from the place `from` on.
pub record Filled (from to : ℕ) (c : Came) (e l : List ℕ) : Type 0 where
  pub front : take from l ≡ take from e
  pub least : from ≤ c.count
  pub most : c.count ≤ to
  pub whole : c.whole ≡ eqb c.count to

-- the record p, with more input behind it
abbrev pub next_for : (p more : List ℕ) → Next
next_for p more = cond (ends_with p) (ends (call_for p)) (calls (call_for p) more)

-- the bytes p are a record, whatever follows
abbrev pub Whole : List ℕ → Type 0
Whole p = (more : List ℕ) → next (p ++ more) ≡ next_for p more

-- what may follow the bytes that came: "at the end" nothing, and a read that gives less than it was asked for is at the end
abbrev pub Unread : Came → List ℕ → Type 0
Unread c more = c.whole ≡ false → more ≡ []

-- "It stops at the end, a cut record or another mark": the bytes p begin none
abbrev pub Ended : List ℕ → Came → Type 0
Ended p c = (more : List ℕ) → Unread c more → next (p ++ more) ≡ stops

-- l: the buffer after the reads. What is played is what came, all of it and no more.
pub record Reads (r : Read) (l : List ℕ) : Type 0 where
  pub within : r.last.count ≤ message_end largest_size
  pub came : mark_end ≤ r.len → r.len ≡ r.last.count
  pub whole : mark_end ≤ r.len → Whole (take r.len l)
  pub ended : r.len < mark_end → Ended (take r.last.count l) r.last

-- the record p was played from the log g, which is m now, and as many bytes handed to be written as are said
pub record Answers (g p : List ℕ) (w : Written) (m : List ℕ) : Type 0 where
  pub log : m ≡ (recall_call (call_for p) g).log
  pub handed : w.handed ≡ length (said_of (call_for p) g)

-- ## All records

abbrev pub joined : List (List ℕ) → List ℕ
joined [] = []
joined (p ∷ ps) = p ++ joined ps

-- record by record, from the log g on, n at most: what came of each, and what is handed to be written in all. It stops where nothing is
-- left to play, behind an oversize header, when a write says that it failed, or when the turns are used up, and then alone.
pub data Fed : (n : ℕ) → Stop → (g : List ℕ) → List (List ℕ) → List ℕ → Type 0 where
  over : {n : ℕ} {c : Came} {g p : List ℕ} → Ended p c → length p ≡ c.count → Fed (suc n) (Over c) g (p ∷ []) []
  last : {n : ℕ} {c : Came} {g p : List ℕ} → Whole p → ends_with p ≡ true → length p ≡ c.count
      → Fed (suc n) (Over c) g (p ∷ []) (said_of (call_for p) g)
  failed : {n : ℕ} {w : Written} {g p : List ℕ} → Whole p → w.whole ≡ false → w.handed ≡ length (said_of (call_for p) g)
      → Fed (suc n) (Unwritten w) g (p ∷ []) (said_of (call_for p) g)
  counted : {g : List ℕ} → Fed 0 Counted g [] []
  goes : {n : ℕ} {h : Stop} {g p : List ℕ} {ps : List (List ℕ)} {w : List ℕ} → Whole p → mark_end ≤ length p → ends_with p ≡ false
      → Fed n h (recall_call (call_for p) g).log ps w → Fed (suc n) h g (p ∷ ps) (said_of (call_for p) g ++ w)

pub record Turns (n : ℕ) (h : Stop) (g : List ℕ) : Type 0 where
  pub reads : List (List ℕ)
  pub output : List ℕ
  pub fed : Fed n h g reads output

-- more turns than any run makes (`program-patient` of proofs/Whole)
abbrev pub most : ℕ
most = 18446744073709551615

abbrev pub Stopped : (g : List ℕ) → Stop → Type 0
Stopped g h = Turns most h g
