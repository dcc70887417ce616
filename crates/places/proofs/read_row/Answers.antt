-- Rests on `load_is`: the words read from the first of a place on are that place.
use Prim.Native.Nat.{◌+◌}
use native.Mathlib.Omega.{arith}
use Rattle.rules.specs.State.{empty}
use Rattle.places.proofs.Words.{load_is}
use Rattle.places.proofs.read_row.Goals as goal

pub returns : goal.returns
returns c =
    let w = c.shared_slice_known-1.given (c.args.b + 6) in
    record {
      is = load_is c.args.q.now c.args.b empty c.requires;
      narrow = record
          { overrides = omega arith; mux = omega arith; asked = omega (arith, w) };
    }
