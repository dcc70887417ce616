-- What making way for a new session promises, and what the answer to a Splice_Request.
use Rattle.std.specs.Prelude.{◌≡◌, List, ℕ}
use Rattle.rules.specs.Lists.{place}
use Rattle.rules.specs.State.{starts_after}
use Rattle.rules.specs.Ends.{evicted}
use Rattle.rules.specs.Splicing.{Spliced}
use Rattle.memory.specs.Memory.{see, onward}
use Rattle.ends.specs.Does.{Turns, Does}
use Rattle.reply.specs.declared.Did.{Did}
use Rattle.requests.specs.declared.Way.{Way}

-- of the words m and the buffer e: the one with the start t has ended, and the place is that of the first that starts later
pub record MadeWay (t : ℕ) (m e : List ℕ) (r : Way) (n o : List ℕ) : Type 0 where
  pub does : Does (evicted t) 0 m e r.len n o
  pub goes : r.at ≡ place (starts_after t) (see n).queue.waiting

-- of the words m and the buffer e: nothing is consumed yet, the turn is done, and an acceptance moved the ring's end on; as many places as
-- are said were shifted
pub record Splices (a : Spliced) (m e : List ℕ) (r : Did) (n o : List ℕ) : Type 0 where
  pub consumed : r.consumed ≡ 0
  pub does : Turns e 0 a.turn (onward a.accepted (see m)) n r.written o
  pub moved : r.moved ≡ a.moved
