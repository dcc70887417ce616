-- One record played: what document 01's card program makes of it, and what the code promises.
use Rattle.std.specs.Prelude.{◌≡◌, Ok, Err, Bool, true, false, cond, List, [], ◌++◌, ℕ, length, drop}
use Rattle.rules.specs.Bytes.{written}
use Rattle.rules.specs.State.{Splicer}
use Rattle.rules.specs.Calls.{Call, call}
use Rattle.rules.specs.HouseNumbers.{refused}
use Rattle.rules.specs.Card.{Next, calls, ends, stops, next, told}
use Rattle.memory.specs.Memory.{see, shifted, shown}
use Rattle.engine.specs.Lent.{Lent, Answer}
use Rattle.feed.specs.declared.Played.{Played}
use Rattle.feed.specs.Feed.{record_in, used_by, is_cut, rest}

-- the splicer after a record, whether it accepted a request, what is written for it, the bytes it took, and whether the program goes on: a
-- cut record waits for more bytes
pub record Step : Type 0 where
  pub splicer : Splicer
  pub accepted : Bool
  pub shows : List ℕ
  pub used : ℕ
  pub more : Bool

-- a call of n bytes; b: whether the program goes on
abbrev pub made_by : ℕ → Bool → Call → Splicer → Step
made_by n b k s =
    let c = call k s in
    record { splicer = c.splicer; accepted = c.accepted; shows = told c.answer; used = n; more = b }

-- b: whether the program goes on without a call
unfoldable pub step_by : ℕ → Bool → Next → Splicer → Step
step_by n b (calls k left) s = made_by n true k s
step_by n b (ends k) s = made_by n false k s
step_by n b stops s = record { splicer = s; accepted = false; shows = []; used = n; more = b }

-- the step of the record that l begins with
unfoldable pub step_of : List ℕ → Splicer → Step
step_of l s = step_by (used_by (record_in l)) (is_cut (record_in l)) (next l) s

-- what the card program writes with the step g on the bytes l at hand, and m behind them
unfoldable pub goes_on : Step → List ℕ → List ℕ → List ℕ
goes_on g l m = g.shows ++ cond g.more (rest g.splicer (drop g.used l ++ m)) []

-- the memory m and b shows the splicer after the record, and what is written stands at the start of the buffer o that held e; the ring,
-- which ended at the place `at`, has moved on with an acceptance alone
pub record Plays (at : ℕ) (e : List ℕ) (g : Step) (r : Played) (m b o : List ℕ) : Type 0 where
  pub lent : Lent m b
  pub splicer : shown m b ≡ g.splicer
  pub ring : (see m).ring_end ≡ shifted g.accepted at
  pub used : r.used ≡ g.used
  pub count : r.len ≡ length g.shows
  pub more : r.more ≡ g.more
  pub bytes : o ≡ written e 0 g.shows

-- ## Behind a call of the engine

-- what is still to be written then: only a refusal's bytes, since a good call wrote its own
unfoldable pub untold : Answer → List ℕ
untold (Err n) = told (refused n)
untold (Ok did) = []

-- how much is written in all
unfoldable pub told_length : Answer → ℕ
told_length (Err n) = length (told (refused n))
told_length (Ok did) = did.written

-- of the buffer e
pub record Tells (a : Answer) (e : List ℕ) (len : ℕ) (o : List ℕ) : Type 0 where
  pub count : len ≡ told_length a
  pub bytes : o ≡ written e 0 (untold a)

-- the call was of a record of n bytes; b: whether to go on
pub record Ended (a : Answer) (n : ℕ) (b : Bool) (e : List ℕ) (r : Played) (o : List ℕ) : Type 0 where
  pub used : r.used ≡ n
  pub more : r.more ≡ b
  pub tells : Tells a e r.len o
