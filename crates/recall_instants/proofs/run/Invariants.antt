-- What is left is a run of as many instants as the loop has turns (`Running`): one more (`running-next`), or only the time
-- (`running-last`).
use Prim.Native.Nat.{◌-◌}
use Rattle.recall_rules.specs.Work.{run_all}
use Rattle.recall_ends.specs.Does.{all}
use Rattle.recall_instants.proofs.Running.{Running}
use Rattle.recall_instants.proofs.run.Given as goal

abbrev pub invariant-loop : goal.invariant-loop
invariant-loop l =
    Running l.until.0 (run_all l.initial.t.0 l.until.0 (all l.initial.m)) l.initial.out l.m l.t.0 l.len l.out (l.end - l.counter)
