-- 02, CR 9: the card with a rolling counter: what its calls promise to C, what C hands in and sees.
use Rattle.std.specs.Prelude.{◌≡◌, List, ℕ, ◌<◌, length, get_or}
use Rattle.rules.specs.Lists.{All}
use Rattle.rules.specs.Calls.{call}
use Rattle.rules.specs.Rolling.{Rolling, Rolled, instant_call, RollingCall, known, instants, readings, roll}
use Rattle.rules.specs.Follows.Sequences.{Timeless}
use Rattle.memory.specs.Memory.{see, shown}
use Rattle.engine.specs.Lent.{Answer}
use Rattle.rolling.specs.LentRolling.{rolling, Rolls}
use Rattle.door.specs.Door.{reply_of, Replies, Input, Typed, call_of, buffer_of}

-- what a call promises: what `rolling` promises, of the lent words m, bytes b and counter's words k, and of the buffer o, which held e; and
-- the reply r is its answer
pub record RollReplies (c : Rolled) (ring : ℕ) (e r m b k o : List ℕ) : Type 0 where
  pub answer : Answer
  pub rolls : Rolls c ring e answer m b k o
  pub reply : r ≡ reply_of answer

-- the same of a call of the rolling splicer that the words m, the bytes b and the counter's words k showed, lent the buffer e
abbrev pub RollHears : (ℕ → Rolling → Rolled) → (m b k e r n c j o : List ℕ) → Type 0
RollHears f m b k e r n c j o = RollReplies (f (length e) (rolling m b k)) (see m).ring_end e r n c j o

-- what is given once: Seconds, MicroSeconds and a reading
abbrev pub instant_of : List ℕ → ℕ → Rolling → Rolled
instant_of g = instant_call (get_or g 0 0) (get_or g 1 0) (get_or g 2 0)

-- ## What C hands in, and what it sees

-- a call of document 01 that needs no time, or one of the two in place of tick
pub data RollInput : Type 0 where
  a_known : (i : Input) → RollInput
  an_instant : (given buffer : List ℕ) → RollInput
  a_reading : (reading : ℕ) (buffer : List ℕ) → RollInput

-- what the types say of the inputs; a driver of this card makes no ticks
abbrev pub RollTyped : RollInput → Type 0
RollTyped (a_known i) = Typed i × Timeless (call_of i)
RollTyped (an_instant g e) = (length g ≡ 3) × All (λ x. x < 4294967296) g
RollTyped (a_reading x e) = x < 4294967296

abbrev pub roll_call_of : RollInput → RollingCall
roll_call_of (a_known i) = known (call_of i)
roll_call_of (an_instant g e) = instants (get_or g 0 0) (get_or g 1 0) (get_or g 2 0) (length e)
roll_call_of (a_reading x e) = readings x (length e)

abbrev pub roll_buffer_of : RollInput → List ℕ
roll_buffer_of (a_known i) = buffer_of i
roll_buffer_of (an_instant g e) = e
roll_buffer_of (a_reading x e) = e

-- after a call: the reply's words, and what the lent words, bytes, counter's words and buffer hold
pub record RollSeen : Type 0 where
  pub reply : List ℕ
  pub words : List ℕ
  pub bytes : List ℕ
  pub counter : List ℕ
  pub buffer : List ℕ

-- lent the words m, the bytes b and the counter's words k, the call's contract allows that C sees r; to a known call the counter is not
-- lent
abbrev pub RollAllowed : (m b k : List ℕ) → RollInput → RollSeen → Type 0
RollAllowed m b k (a_known i) r =
    Replies (call (call_of i) (shown m b)) (see m).ring_end (buffer_of i) r.reply r.words r.bytes r.buffer × (r.counter ≡ k)
RollAllowed m b k (an_instant g e) r =
    RollReplies (roll (roll_call_of (an_instant g e)) (rolling m b k)) (see m).ring_end e r.reply r.words r.bytes r.counter
    r.buffer
RollAllowed m b k (a_reading x e) r =
    RollReplies (roll (roll_call_of (a_reading x e)) (rolling m b k)) (see m).ring_end e r.reply r.words r.bytes r.counter
    r.buffer
