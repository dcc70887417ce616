use native.Mathlib.Omega.{arith}
use Rattle.judge.proofs.Loops.{running_none, running-stands, running-over, running-within, running_more}
use Rattle.judge.proofs.turns.run.Goals as goal

pub loop-n-init : goal.loop-n-init
loop-n-init c = (running_none _ _ _ _ c.requires (omega arith), omega arith)

pub turn-requires : goal.turn-requires
turn-requires c = let loop = c.loop-n in record {
  lent = loop.invariant.0.lent;
  stands = running-stands loop.invariant.0;
}

pub overflow_add-at : goal.overflow_add-at
overflow_add-at c =
    let loop = c.loop-n in
    let t = c.turn in
    omega (
      arith,
      running-within loop.invariant.0 t.result t.new.m t.new.b t.new.due t.ensures
          c.in-Continue.is,
    )

pub loop-n-smaller : goal.loop-n-smaller
loop-n-smaller c =
    let loop = c.loop-n in
    let t = c.turn in
    omega (
      arith,
      running-within loop.invariant.0 t.result t.new.m t.new.b t.new.due t.ensures
          c.in-Continue.is,
    )

pub loop-n-preserved : goal.loop-n-preserved
loop-n-preserved c =
    let loop = c.loop-n in
    let t = c.turn in (
      running_more loop.invariant.0 t.result t.new.m t.new.b t.new.due t.ensures
          c.in-Continue.is,
      loop.invariant.1,
    )

pub returns-in-Break : goal.returns-in-Break
returns-in-Break c =
    let loop = c.loop-n in
    let t = c.turn in
    running-over loop.invariant.0 t.result t.new.m t.new.b t.new.due t.ensures
    c.in-Break.is
