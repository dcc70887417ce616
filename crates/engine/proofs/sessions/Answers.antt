-- The started and then those that wait, each as many as there is room for (`all_listed`).
use mathlib.Core.Path.{◌≡◌, ap, ap₂, ◌∙◌}
use Prim.Native.Nat.{ℕ, ◌+◌, ◌-◌, ◌/◌, min}
use native.Mathlib.Omega.{arith}
use lib.ListN.{length}
use Rattle.memory.specs.declared.Which.TheVariants.{Waiting, Started}
use Rattle.memory.specs.Memory.{sessions}
use Rattle.engine.proofs.Listed.{held-few, started-listable, waiting-listable, all_listed}
use Rattle.engine.proofs.sessions.Goals as goal

pub list_sessions-requires : goal.list_sessions-requires
list_sessions-requires c =
    let n : c.count-started.result ≡ length (sessions Started c.args.m.now) =
    c.count-started.ensures in
    started-listable c.requires c.args.rows.now c.min-first.result
    (c.min-first.ensures ∙ ap (λ (k : ℕ). min k (length c.args.rows.now / 7)) n)

pub list_sessions-requires-2 : goal.list_sessions-requires-2
list_sessions-requires-2 c =
    let room = length c.args.rows.now / 7 in
    let first = c.min-first.result in
    let n : c.count-started.result ≡ length (sessions Started c.args.m.now) =
    c.count-started.ensures in
    let w : c.count-waiting.result ≡ length (sessions Waiting c.args.m.now) = c.count-waiting.ensures in
    let list = c.list_sessions in
    waiting-listable c.requires c.args.rows.now first (c.min-first.ensures ∙ ap (λ (k : ℕ). min k room) n)
    c.min.result list.new.rows
    (c.min.ensures ∙ ap (λ (k : ℕ). min k (room - first)) w) list.ensures

pub overflow_add-result : goal.overflow_add-result
overflow_add-result c =
    let f = held-few c.requires in
    omega (
      arith,
      f.0,
      f.1,
      c.count-started.ensures,
      c.count-waiting.ensures,
    )

pub returns : goal.returns
returns c =
    let m = c.args.m.now in
    let room = length c.args.rows.now / 7 in
    let first = c.min-first in
    let more = c.min in
    let n : c.count-started.result ≡ length (sessions Started m) =
    c.count-started.ensures in
    let w : c.count-waiting.result ≡ length (sessions Waiting m) =
    c.count-waiting.ensures in
    record {
      number = ap₂ ◌+◌ n w;
      rows = all_listed m c.args.b.now c.args.rows.now first.result more.result
          c.list_sessions.new.rows c.list_sessions-2.new.rows
          (first.ensures ∙ ap (λ (k : ℕ). min k room) n) (more.ensures ∙ ap (λ (k : ℕ). min k (room - first.result)) w)
          c.list_sessions.ensures c.list_sessions-2.ensures;
    }
