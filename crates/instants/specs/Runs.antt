-- What an instant may rely on, what passing time does to what the words show, and what a tick promises.
use Rattle.std.specs.Prelude.{ℕ, ◌+◌, ◌≤◌, ◌<◌, List, length}
use Rattle.rules.specs.declared.Session.{Session}
use Rattle.rules.specs.Lists.{All}
use Rattle.rules.specs.State.{Queue}
use Rattle.rules.specs.Ends.{Turn}
use Rattle.rules.specs.Instants.{elapse, run_all, silence, silent_all}
use Rattle.memory.specs.declared.Which.TheVariants.{Started}
use Rattle.memory.specs.Memory.{places_of, Memory, queued, silenced}
use Rattle.ends.specs.Does.{Turns, Ordered}

-- at the instant t: those that wait are in order of start, each behind the one that it follows, and none of them starts before it
pub record Meets (t : ℕ) (q : Queue) : Type 0 where
  pub ordered : Ordered q.waiting
  pub starts : All (λ s. t ≤ s.start.0) q.waiting

-- there is a place for each that has started after the work; before it ten may have, if it ends an equal one first
abbrev pub Placed : Turn → Type 0
Placed t = length t.queue.started ≤ places_of Started

-- with d more, its time on air does not pass 64 bits
abbrev pub Lasts : ℕ → Session → Type 0
Lasts d s = s.played.0 + d < 18446744073709551616

abbrev pub Lasting : ℕ → List Session → Type 0
Lasting d k = All (Lasts d) k

-- d ninths have passed for what the words show: for the one on air or, with none, for the primary channel
abbrev pub passed : ℕ → Memory → Memory
passed d s = silenced (silence d s.queue.started) (queued (elapse d s.queue) s)

-- a tick to until, of what the words showed, its records at the front of the buffer e: 02, CR 13, all else is as before but for the primary
-- sum
abbrev pub Ticked : (until : ℕ) → (s : Memory) → (e : List ℕ) → (to : ℕ) → (n o : List ℕ) → Type 0
Ticked until s e to n o =
    Turns e 0 (run_all s.clock until s.queue) (silenced (silent_all s.clock until s.queue) s) n to o
