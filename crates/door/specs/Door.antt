-- The reply to C, what a call of the door promises, and what C hands in and sees.
use Rattle.std.specs.Prelude.{◌≡◌, List, [], ℕ, ◌+◌, ◌*◌, ◌<◌, length, get_or}
use Rattle.rules.specs.Lists.{All}
use Rattle.rules.specs.Follows.Wires.{Byte}
use Rattle.rules.specs.State.{Splicer}
use Rattle.rules.specs.HouseNumbers.{Called, lending_maps}
use Rattle.rules.specs.Calls.{Call, opens, closes, messages, ticks, cues, cue_call, call}
use Rattle.memory.specs.Memory.{see, shown}
use Rattle.relay.specs.declared.Anchor.{Anchor}
use Rattle.engine.specs.Lent.{Answer}
use Rattle.engine.specs.Lent.{Answers}
unfoldable pub use Rattle.engine.specs.Lent.{reply_of}

-- what a call promises: what the engine promises, of the lent words m and bytes b, of the ring that ended at the place `at`, and of the
-- buffer o, which held e; and the reply r is the engine's answer
pub record Replies (c : Called) (at : ℕ) (e r m b o : List ℕ) : Type 0 where
  pub answer : Answer
  pub answers : Answers c at e answer m b o
  pub reply : r ≡ reply_of answer

-- the same of a call of the splicer that the words m and the bytes b showed, lent the buffer e
abbrev pub Hears : (ℕ → Splicer → Called) → (m b e r n c o : List ℕ) → Type 0
Hears k m b e r n c o = Replies (k (length e) (shown m b)) (see m).ring_end e r n c o

-- the version of the calls, as one number: the first of SPLICER_VERSION and SPLICER_VERSION_MINOR in thousands, then the second
abbrev pub version : ℕ
version = 7 * 1000 + 0

-- 02, CR 7: what is given with a section: the PTS, its high 32 bits first, Seconds and MicroSeconds
abbrev pub pts_of : List ℕ → ℕ
pts_of g = get_or g 0 0 * 4294967296 + get_or g 1 0

abbrev pub anchor_of : List ℕ → Anchor
anchor_of g = record { pts = pts_of g; seconds = get_or g 2 0; micros = get_or g 3 0 }

abbrev pub cue_of : (section given : List ℕ) → ℕ → Splicer → Called
cue_of l g = cue_call l (anchor_of g).pts (anchor_of g).seconds (anchor_of g).micros

-- ## What C hands in, and what it sees

-- a call and what it is handed beside the lent words and bytes; a buffer is what it holds before the call
pub data Input : Type 0 where
  an_open : (conn : ℕ) → Input
  a_close : (conn : ℕ) (buffer : List ℕ) → Input
  a_message : (conn : ℕ) (l primary insertion buffer : List ℕ) → Input
  a_tick : (seconds micros : ℕ) (buffer : List ℕ) → Input
  a_cue : (section given buffer : List ℕ) → Input

-- what the types say of the inputs: a u32 is below 2^32, and a u8 is a byte
abbrev pub Typed : Input → Type 0
Typed (an_open conn) = conn < 4294967296
Typed (a_close conn e) = conn < 4294967296
Typed (a_message conn l pm im e) = (conn < 4294967296) × All Byte l × All Byte pm × All Byte im
Typed (a_tick seconds micros e) = (seconds < 4294967296) × (micros < 4294967296)
Typed (a_cue l g e) = All Byte l × (length g ≡ 4) × All (λ x. x < 4294967296) g

-- the call as document 01 has it: of a buffer, its length
abbrev pub call_of : Input → Call
call_of (an_open conn) = opens conn
call_of (a_close conn e) = closes conn (length e)
call_of (a_message conn l pm im e) = messages conn l (lending_maps pm im (length e))
call_of (a_tick seconds micros e) = ticks seconds micros (length e)
call_of (a_cue l g e) = cues l (pts_of g) (get_or g 2 0) (get_or g 3 0) (length e)

-- open has no buffer
abbrev pub buffer_of : Input → List ℕ
buffer_of (an_open conn) = []
buffer_of (a_close conn e) = e
buffer_of (a_message conn l pm im e) = e
buffer_of (a_tick seconds micros e) = e
buffer_of (a_cue l g e) = e

-- after a call: the reply's words, and what the lent words, bytes and buffer hold
pub record Seen : Type 0 where
  pub reply : List ℕ
  pub words : List ℕ
  pub bytes : List ℕ
  pub buffer : List ℕ

-- lent the words m and the bytes b, the call's contract allows that C sees r
abbrev pub Allowed : (m b : List ℕ) → Input → Seen → Type 0
Allowed m b i r = Replies (call (call_of i) (shown m b)) (see m).ring_end (buffer_of i) r.reply r.words r.bytes r.buffer
