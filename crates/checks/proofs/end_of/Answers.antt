-- The session where the number is held has the end (`found-end`); no other end is known (`no_end`).
use Rattle.std.proofs.Common.{sym, ◌∙◌}
use Rattle.memory.specs.Memory.{see}
use Rattle.checks.proofs.Laws.{held_at, held-nowhere, found_within, found-end, no_end}
use Rattle.checks.proofs.end_of.Goals as goal

pub returns-in_err-place : goal.returns-in_err-place
returns-in_err-place c =
    let q = (see c.args.m.now).queue in
    let none = no_end c.args.conn c.args.id q (held-nowhere c.args.conn c.args.id q (sym c.where_held.ensures ∙ c.in_err-place.was)) in
    c.from_residual.ensures ∙ none

pub load-x-requires-clause-at_in_bounds : goal.load-x-requires-clause-at_in_bounds
load-x-requires-clause-at_in_bounds c =
    let m = c.args.m.now in
    found_within c.args.conn c.args.id m
    (held_at c.args.conn c.args.id (see m).queue (sym c.where_held.ensures ∙ c.in_ok-place.was))

pub returns : goal.returns
returns c =
    let m = c.args.m.now in
    found-end c.args.conn c.args.id m
    (held_at c.args.conn c.args.id (see m).queue (sym c.where_held.ensures ∙ c.in_ok-place.was))
    c.load-x.result c.load-x.ensures.is
