-- What is compared of two engines that are called side by side.
use Rattle.std.specs.Prelude.{Ok, Err, ◌≡◌, Bool, true, false, cond, List, [], ◌∷◌, ◌++◌, ℕ, ◌-◌, eqb, length, replicate}
use Rattle.rules.specs.Lists.{All, put}
use Rattle.rules.specs.Calls.{Call}
use Rattle.recall_log.specs.Log.{kept_calls, log_length}
use Rattle.recall_log.specs.Kept.{Reply, kept_form, recorded, number_of}

-- a call that was made of both: the buffer before it, the card's reply and the buffer after it, and the second one's, with its log
pub record Pair : Type 0 where
  pub call : Call
  pub before : List ℕ
  pub reply : Reply
  pub buffer : List ℕ
  pub told : Reply
  pub log : List ℕ
  pub filled : List ℕ

-- "it is proved to answer like the card's engine, byte for byte"
pub record Same (p : Pair) : Type 0 where
  pub reply : p.told ≡ p.reply
  pub buffer : p.filled ≡ p.buffer

-- the second one refused with 13
abbrev pub is13 : Reply → Bool
is13 r = eqb (number_of r) 13

-- "Until it first refuses with 13"
abbrev pub until13 : List Pair → List Pair
until13 [] = []
until13 (p ∷ h) = cond (is13 p.told) [] (p ∷ until13 h)

-- none of the calls got it
abbrev pub None13 : List Pair → Type 0
None13 [] = Unit {0}
None13 (p ∷ h) = (is13 p.told ≡ false) × None13 h

-- the log after the calls, which was l before them
abbrev pub log_after : List ℕ → List Pair → List ℕ
log_after l [] = l
log_after l (p ∷ h) = log_after p.log h

-- a reply to a good call
unfoldable pub is_done : Reply → Bool
is_done (Err n) = false
is_done (Ok did) = true

-- the good ones of the calls, by the card's replies, in the form that is kept
abbrev pub good_ones : List Pair → List Call
good_ones [] = []
good_ones (p ∷ h) = put (is_done p.reply) (kept_form p.call) (good_ones h)

-- from the log l that fresh left: all replies and buffers are the same up to the first 13, and the log has the good calls, in their order,
-- and
-- zeros behind them
pub record LikeTheCard (l : List ℕ) (h : List Pair) : Type 0 where
  pub same : All Same (until13 h)
  pub calls : kept_calls (log_after l (until13 h)) ≡ good_ones (until13 h)
  pub bytes : log_after l (until13 h) ≡ recorded (good_ones (until13 h)) ++ replicate
      (log_length - length (recorded (good_ones (until13 h)))) 0
