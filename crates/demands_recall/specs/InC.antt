-- The same in C: the calls of libdoor.a, as door/specs/Door has them, and of libbench.a.
use Rattle.std.specs.Prelude.{◌≡◌, Bool, false, cond, List, [], ◌∷◌, ◌++◌, ℕ, ◌-◌, eqb, length, get_or, replicate}
use Rattle.rules.specs.Lists.{All, put}
use Rattle.rules.specs.Bytes.{padded}
use Rattle.rules.specs.Card.{card_name}
use Rattle.rules.specs.Calls.{fresh, Call}
use Rattle.door.specs.Door.{Replies, Input, Typed, call_of, buffer_of, Seen, Allowed}
use Rattle.recall_log.specs.Log.{kept_calls, log_length}
use Rattle.recall_log.specs.Kept.{Its, kept_form, recorded}
use Rattle.door_bench.specs.Bench.{Tells, TellsFresh}

-- what C sees of a call of the second engine: the reply's words, and what the log and the buffer hold after it
pub record Recollection : Type 0 where
  pub reply : List ℕ
  pub log : List ℕ
  pub buffer : List ℕ

pub record Both : Type 0 where
  pub input : Input
  pub card : Seen
  pub second : Recollection

abbrev pub Recollects : List ℕ → Input → Recollection → Type 0
Recollects l i y = Tells (call_of i) l (buffer_of i) y.reply y.log y.buffer

-- the calls h, made of both one after the other, from the card's words m and bytes b and from the log l
abbrev pub Course : (m b l : List ℕ) → List Both → Type 0
Course m b l [] = Unit {0}
Course m b l (x ∷ h) =
    Typed x.input × Its (call_of x.input) × Allowed m b x.input x.card × Recollects l x.input x.second
    × Course x.card.words x.card.bytes x.second.log h

pub record Beside (h : List Both) : Type 0 where
  pub words : List ℕ
  pub bytes : List ℕ
  pub reply : List ℕ
  pub fresh : Replies (fresh (padded card_name)) 0 [] reply words bytes []
  -- the log that was handed to fresh: any bytes
  pub lent : List ℕ
  pub told : List ℕ
  pub log : List ℕ
  pub forgets : TellsFresh lent told log
  pub course : Course words bytes log h

-- ## What is compared: every word of the replies, and every byte of the buffers

pub record Alike (x : Both) : Type 0 where
  pub reply : x.second.reply ≡ x.card.reply
  pub buffer : x.second.buffer ≡ x.card.buffer

-- the first word of a reply is the house number
abbrev pub number_in : List ℕ → ℕ
number_in w = get_or w 0 0

abbrev pub is13 : List ℕ → Bool
is13 w = eqb (number_in w) 13

abbrev pub until13 : List Both → List Both
until13 [] = []
until13 (x ∷ h) = cond (is13 x.second.reply) [] (x ∷ until13 h)

-- none of the calls got it
abbrev pub None13 : List Both → Type 0
None13 [] = Unit {0}
None13 (x ∷ h) = (is13 x.second.reply ≡ false) × None13 h

abbrev pub log_after : List ℕ → List Both → List ℕ
log_after l [] = l
log_after l (x ∷ h) = log_after x.second.log h

-- the good ones of the calls: those whose reply of the card has no number
abbrev pub good_ones : List Both → List Call
good_ones [] = []
good_ones (x ∷ h) = put (eqb (number_in x.card.reply) 0) (kept_form (call_of x.input)) (good_ones h)

-- from the log l that fresh left
pub record LikeTheCard (l : List ℕ) (h : List Both) : Type 0 where
  pub same : All Alike (until13 h)
  pub calls : kept_calls (log_after l (until13 h)) ≡ good_ones (until13 h)
  pub bytes : log_after l (until13 h) ≡ recorded (good_ones (until13 h)) ++ replicate
      (log_length - length (recorded (good_ones (until13 h)))) 0
