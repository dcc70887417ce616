-- None is on air, another's is, or the connection's, which ends (`air-none`, `air-other`, `air-ends`).
-- Rests on what `end_one_started` promises.
use native.Mathlib.Omega.{arith}
use Rattle.memory.proofs.Laws.{quiet_none, quiet-some}
use borrow.Author.Rules.{rules}
use borrow.Author.Tests.{eq-eqb, ne_eqb}
use mathlib.Core.Path.{sym, ◌∙◌}
use Prim.Native.Nat.{◌<◌}
use lib.ListN.{length}
use Rattle.rules.specs.State.{empty}
use Rattle.rules.proofs.Every.{all_get_d}
use Rattle.memory.specs.Memory.{see}
use Rattle.ends.specs.Does.{Playable}
use Rattle.ends.proofs.Laws.{air-none, air-other, air-ends}
use Rattle.ends.proofs.end_on_air_of.Goals as goal

pub returns-then-is_quiet : goal.returns-then-is_quiet
returns-then-is_quiet c =
    air-none c.args.conn c.args.m.now c.requires.form (quiet_none c.is_quiet.ensures c.if-is_quiet.true)

pub conn_at-requires : goal.conn_at-requires
conn_at-requires c =
    record { form = c.requires.form; at_in_bounds = quiet-some c.is_quiet.ensures c.if-is_quiet.false }

pub returns-then-conn-conn_at : goal.returns-then-conn-conn_at
returns-then-conn-conn_at c =
    let h : 0 < length (see c.args.m.now).queue.started = quiet-some c.is_quiet.ensures c.if-is_quiet.false in
    air-other c.args.conn c.args.m.now h c.requires.form (ne_eqb _ _ (λ e. c.if-conn-conn_at.true (e ∙ sym c.conn_at.ensures)))

pub end_one_started-requires : goal.end_one_started-requires
end_one_started-requires c =
    let l = (see c.args.m.now).queue.started in
    let h : 0 < length l = quiet-some c.is_quiet.ensures c.if-is_quiet.false in
    let p = all_get_d Playable l 0 empty h c.requires.all in
    record {
      form = c.requires.form;
      at_in_bounds = h;
      writable = search (rules, p);
      room_for_in_bounds = omega
          (arith, c.requires.m_in_bounds);
    }

pub returns : goal.returns
returns c =
    let h : 0 < length (see c.args.m.now).queue.started = quiet-some c.is_quiet.ensures c.if-is_quiet.false in
    air-ends c.args.conn c.args.m.now h (eq-eqb _ _ (c.if-conn-conn_at.false ∙ c.conn_at.ensures)) c.end_one_started.ensures
