-- What the theorems ask of inputs and of the log that is lent can be met: any open, close, message and tick are the second engine's calls,
-- and there is a log of its length. Assumes nothing.
use mathlib.Core.Path.{◌≡◌}
use mathlib.Core.List.{List, [], ◌∷◌}
use Prim.Native.Nat.{ℕ}
use lib.ListN.{length, replicate, length-replicate}
use Rattle.rules.specs.Lists.{All}
use Rattle.recall_log.specs.Log.{log_length}
use Rattle.recall_log.specs.Kept.{Its}
use Rattle.demands_engine.specs.Trace as engine
use Rattle.door.specs.Door as door

module _ (conn seconds micros : ℕ) (l pm im e : List ℕ) where
  abbrev pub inputs : List engine.Input
  inputs = engine.an_open conn ∷ engine.a_close conn e ∷ engine.a_message conn l pm im e ∷ engine.a_tick seconds micros e ∷ []

  pub its : All (λ (i : engine.Input). Its (engine.call_of i)) inputs
  its = (tt, (tt, (tt, (tt, tt))))

  abbrev pub inputs-in-c : List door.Input
  inputs-in-c = door.an_open conn ∷ door.a_close conn e ∷ door.a_message conn l pm im e ∷ door.a_tick seconds micros e ∷ []

  pub its-in-c : All (λ (i : door.Input). Its (door.call_of i)) inputs-in-c
  its-in-c = (tt, (tt, (tt, (tt, tt))))

pub long : length (replicate {A = ℕ} log_length 0) ≡ log_length
long = length-replicate {A = ℕ} log_length 0
