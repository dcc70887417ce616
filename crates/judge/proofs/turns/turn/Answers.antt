-- By the kind of the entry.
-- Rests on proofs/Going: what each kind of entry says.
use mathlib.Core.Path.{sym, ◌∙◌}
use Rattle.judge.proofs.Going.{unread-judged, end_on}
use Rattle.judge.proofs.turns.turn.Goals as goal

pub called-requires : goal.called-requires
called-requires c =
    record {
      lent = c.requires.lent;
      stands = c.requires.stands;
      l_value = sym c.entry_at.ensures ∙ c.in-Made.is;
    }

pub compared-requires : goal.compared-requires
compared-requires c =
    record {
      stands = c.requires.stands;
      l_value = sym c.entry_at.ensures ∙ c.in-Wrote.is;
    }

pub returns-in-Wrote : goal.returns-in-Wrote
returns-in-Wrote c =
    c.compared.ensures c.args.m.now c.args.b.now c.requires.lent

pub returns-in-Cut : goal.returns-in-Cut
returns-in-Cut c = unread-judged _ c.args.l.now c.entry_at.ensures c.in-Cut.is

pub returns-in-End : goal.returns-in-End
returns-in-End c =
    end_on c.args.g c.args.l.now c.args.m.now c.args.b.now c.args.due.now c.requires.stands
    (sym c.entry_at.ensures ∙ c.in-End.is)
    ∙ sym c.at_end.ensures
