-- What a piece of work on the lent words promises, and the turns of the ends of one list.
use Rattle.std.specs.Prelude.{◌≡◌, Bool, true, cond, List, [], ◌∷◌, ℕ, zero, suc, ◌+◌, ◌*◌, ◌/◌, ◌<◌, length, take, get_or}
use Rattle.rules.specs.declared.Session.{Session}
use Rattle.rules.specs.declared.Ending.{Ending}
use Rattle.rules.specs.declared.Ending.TheVariants.{Complete, Failed, Response}
use Rattle.rules.specs.Lists.{All, some, keep, omit, remove_at}
use Rattle.rules.specs.Bytes.{written}
use Rattle.rules.specs.Records.{Record, output}
use Rattle.rules.specs.State.{Queue, empty, of, follows}
use Rattle.rules.specs.Follows.Wires.{Sorted}
use Rattle.rules.specs.Ends.{Turn, quiet, and_then, ending, one_end, all_end, dismissed}
use Rattle.memory.specs.declared.Which.{Which}
use Rattle.memory.specs.declared.Which.TheVariants.{Started}
use Rattle.memory.specs.Memory.{Memory, see, list_of, listed, queued, Now}

-- its PlayedDuration has four bytes
abbrev pub Playable : Session → Type 0
Playable s = s.played.0 / 100 < 4294967296

-- what an end asks of its session: only one with flag 1 says a PlayedDuration
abbrev pub Writable : Ending → Session → Type 0
Writable (Complete r) s = Playable s
Writable Failed s = Unit {0}
Writable (Response r) s = Unit {0}

-- an end that is a SpliceComplete
abbrev pub Completing : Ending → Type 0
Completing (Complete r) = Unit {0}
Completing Failed = Unit {0}
Completing (Response r) = ⊥

-- no end takes more than 23 bytes
abbrev pub room_for : ℕ → ℕ
room_for n = 23 * n

-- of the buffer e, written up to len: the records stand behind what was written, and it is written up to `to`
pub record Tells (e : List ℕ) (len : ℕ) (records : List Record) (to : ℕ) (o : List ℕ) : Type 0 where
  pub count : to ≡ len + length (output records)
  pub bytes : o ≡ written e len (output records)

-- of the buffer e, written up to len, and of what the words showed: they now show the turn's queue and all else as before, and its
-- records stand behind what was written
pub record Turns (e : List ℕ) (len : ℕ) (t : Turn) (s : Memory) (n : List ℕ) (to : ℕ) (o : List ℕ) : Type 0 where
  pub shows : Now n (queued t.queue s)
  pub tells : Tells e len t.written to o

-- the work was done on the queue that the words m showed, and on the buffer e, written up to len
abbrev pub Does : (Queue → Turn) → ℕ → (m e : List ℕ) → ℕ → (n o : List ℕ) → Type 0
Does work len m e to n o = Turns e len (work (see m).queue) (see m) n to o

-- ## One end and its followers'

-- the session i of a list ends
unfoldable pub one_ended : Which → ℕ → Ending → Queue → Turn
one_ended v i how q =
    ending (one_end how (get_or (list_of v q) i empty)) (listed v (remove_at i (list_of v q)) q)

-- the session i of a list ends, and then the waiting ones that follow it, with the result r
unfoldable pub chain_ended : Which → ℕ → Ending → ℕ → Queue → Turn
chain_ended v i how r q =
    let s = get_or (list_of v q) i empty in
    and_then (one_ended v i how q) (dismissed r s.conn s.id)

-- "An aborted session on air ends with SpliceComplete flag 1, result 116; a covered or waiting one with Splice_Response 116": the first
-- of the started is on air
abbrev pub ending_at : ℕ → ℕ → Ending
ending_at zero r = Complete r
ending_at (suc i) r = Response r

-- ## A connection's ends at its close

-- the one on air ends, if it is the connection's
unfoldable pub air_ended : ℕ → Queue → Turn
air_ended c q =
    cond (some (of c) (take 1 q.started)) (one_ended Started 0 (Complete 116) q) (quiet q)

-- those of a list that pass p end with the result r, none of which is on air
unfoldable pub those_ended : Which → (Session → Bool) → ℕ → Queue → Turn
those_ended v p r q = ending (all_end (Response r) (keep p (list_of v q))) (listed v (omit p (list_of v q)) q)

-- the connection's
abbrev pub theirs_ended : Which → ℕ → Queue → Turn
theirs_ended v c = those_ended v (of c) 116

-- ## Followers

-- of w, in order of start: whoever follows one of w starts after it
pub record Ordered (w : List Session) : Type 0 where
  pub sorted : Sorted w
  pub behind : All (λ g. All (λ s. follows g.conn g.id s ≡ true → g.start.0 < s.start.0) w) w

-- the flags f with a 1 for each of w that reaches connection c's number x link by link: each link looks on from where the last one stood
abbrev pub flagging : ℕ → ℕ → List Session → List ℕ → List ℕ
flagging c x [] f = f
flagging c x (s ∷ w) [] = []
flagging c x (s ∷ w) (b ∷ f) = cond (follows c x s) (1 ∷ flagging c s.id w f) (b ∷ flagging c x w f)

-- w stands from the place i on: the place behind the last of them, or e where there is none
abbrev pub behind_last : ℕ → ℕ → ℕ → List Session → ℕ → ℕ
behind_last c x i [] e = e
behind_last c x i (s ∷ w) e = cond (follows c x s) (behind_last c s.id (suc i) w (suc i)) (behind_last c x (suc i) w e)
