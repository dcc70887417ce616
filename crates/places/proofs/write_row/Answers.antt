-- Rests on `store_is`: the words written from the first of a place on are that place.
use native.Mathlib.Omega.{arith}
use lib.ListN.{length-set}
use Rattle.places.proofs.Words.{store_is, store-spare}
use Rattle.places.proofs.write_row.Goals as goal

pub bounds-q-b-2 : goal.bounds-q-b-2
bounds-q-b-2 c = simp length-set (omega arith)

pub bounds-q-b-3 : goal.bounds-q-b-3
bounds-q-b-3 c = simp length-set (omega arith)

pub bounds-q-b-4 : goal.bounds-q-b-4
bounds-q-b-4 c = simp length-set (omega arith)

pub bounds-q-b-5 : goal.bounds-q-b-5
bounds-q-b-5 c = simp length-set (omega arith)

pub bounds-q-b-6 : goal.bounds-q-b-6
bounds-q-b-6 c = simp length-set (omega arith)

pub bounds-q-b-7 : goal.bounds-q-b-7
bounds-q-b-7 c = simp length-set (omega arith)

pub bounds-q-b-8 : goal.bounds-q-b-8
bounds-q-b-8 c = simp length-set (omega arith)

pub shape_of-q : goal.shape_of-q
shape_of-q c = simp length-set

pub returns : goal.returns
returns c =
    let a = c.args in record {
      list = store_is a.q.now a.b a.x (c.requires.narrow.overrides, c.requires.narrow.mux) c.requires.row;
      rest
          = store-spare a.q.now a.b a.x c.requires.row;
    }
