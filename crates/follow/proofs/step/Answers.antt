-- By the kind of the entry.
-- Rests on proofs/Steps and on the promises of what each kind calls.
use Rattle.std.proofs.Common.{sym, ◌∙◌}
use Rattle.follow.proofs.Steps.{open_last}
use Rattle.follow.proofs.step.Goals as goal

pub called-requires : goal.called-requires
called-requires c =
    record {
      stands = c.requires.stands;
      told_value = c.requires.told_value;
      l_value = sym c.entry_at.ensures ∙ c.in-Made.is;
    }

pub compared-requires : goal.compared-requires
compared-requires c =
    record {
      from_le_end = c.requires.stands.within;
      end_in_bounds = c.requires.stands.room;
      told_value = c.requires.told_value;
      l_value = sym c.entry_at.ensures ∙ c.in-Wrote.is;
    }

pub returns-in-Made : goal.returns-in-Made
returns-in-Made c = c.called.ensures

pub returns-in-Wrote : goal.returns-in-Wrote
returns-in-Wrote c =
    c.compared.ensures c.args.m.now c.args.b.now c.requires.stands

pub returns-in-Cut : goal.returns-in-Cut
returns-in-Cut c =
    open_last c.args.s _ _ _ _ _ c.requires.stands c.requires.told_value (sym c.entry_at.ensures) c.in-Cut.is

pub returns-in-Another : goal.returns-in-Another
returns-in-Another c =
    c.strange.ensures c.args.l.now c.args.m.now c.args.b.now c.args.due.now
    (sym c.entry_at.ensures ∙ c.in-Another.is) c.requires.stands
