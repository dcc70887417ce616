-- Each way is one law of proofs/Messages. Rests on what `store` promises of a row.
use Rattle.std.proofs.Common.{⊎_elim}
use Rattle.recall_pass.proofs.Messages.{settles-none, settles-joins, settles-enters, settles-configures}
use Rattle.recall_pass.proofs.settle.Goals as goal

pub returns-in-Joins : goal.returns-in-Joins
returns-in-Joins c =
    let store = c.store in
    λ d hardware. settles-joins c.args.conn c.args.h c.args.m.now c.requires.fits d hardware c.in-Joins.is store.auto.m
    store.ensures

pub returns-in-Enters : goal.returns-in-Enters
returns-in-Enters c =
    let linked = c.linked in
    λ d hardware. settles-enters c.args.conn c.args.h c.args.m.now c.requires.fits d hardware c.in-Enters.is
    linked.ensures

pub returns-in-Nothing : goal.returns-in-Nothing
returns-in-Nothing c =
    ⊎_elim (λ e d hardware. settles-none c.args.conn c.args.h c.args.m.now c.requires.fits d hardware e)
    (λ e d hardware. settles-configures c.args.conn c.args.h c.args.m.now c.requires.fits d hardware e) c.in-Nothing.is
