-- Both engines called side by side, each result one that the call's contract allows: the card's from fresh with "CH1", as
-- demands_engine/specs/Trace
-- has it, and the second one from its fresh, each call handed the log that the last one left.
use Rattle.std.specs.Prelude.{Ok, Err, List, [], ◌∷◌, map, ℕ}
use Rattle.rules.specs.Bytes.{padded}
use Rattle.rules.specs.Card.{card_name}
use Rattle.rules.specs.Calls.{fresh}
use Rattle.engine.specs.Lent.{Answer, Answers}
use Rattle.demands_engine.specs.Trace.{Memory, Input, Typed, call_of, buffer_of, Result, Allowed}
use Rattle.recall_log.specs.declared.Refused.TheVariants.{Rule}
use Rattle.recall_log.specs.Kept.{Reply, Its}
use Rattle.recall.specs.Recall.{Remembers, Forgets}
use Rattle.demands_recall.specs.Sides.{Pair}

-- what a call of the second engine gives: the reply, and what the log and the buffer hold after it
pub record Recollection : Type 0 where
  pub reply : Reply
  pub log : List ℕ
  pub buffer : List ℕ

-- a call that was made of both
pub record Both : Type 0 where
  pub input : Input
  pub card : Result
  pub second : Recollection

-- handed the log l, the contract of the second engine's call allows y
abbrev pub Recollects : List ℕ → Input → Recollection → Type 0
Recollects l i y = Remembers (call_of i) l (buffer_of i) y.reply y.log y.buffer

-- the calls h, made of both one after the other, from the memory m and from the log l
abbrev pub Course : Memory → List ℕ → List Both → Type 0
Course m l [] = Unit {0}
Course m l (x ∷ h) =
    Typed x.input × Its (call_of x.input) × Allowed m x.input x.card × Recollects l x.input x.second
    × Course x.card.memory x.second.log h

-- both were fresh, and then the calls h were made
pub record Beside (h : List Both) : Type 0 where
  pub memory : Memory
  pub answer : Answer
  pub fresh : Answers (fresh (padded card_name)) 0 [] answer memory.words memory.bytes []
  -- the log that the second one's fresh was handed: any bytes
  pub lent : List ℕ
  pub reply : Reply
  pub log : List ℕ
  pub forgets : Forgets lent reply log
  pub course : Course memory log h

-- ## What is compared

-- an answer of the card's engine in the second one's words
unfoldable pub as_reply : Answer → Reply
as_reply (Err n) = Err (Rule n)
as_reply (Ok did) = Ok did

abbrev pub pair_of : Both → Pair
pair_of x =
    record {
      call = call_of x.input;
      before = buffer_of x.input;
      reply = as_reply x.card.answer;
      buffer = x.card.buffer;
      told = x.second.reply;
      log = x.second.log;
      filled = x.second.buffer;
    }

abbrev pub pairs : List Both → List Pair
pairs h = map pair_of h
