-- Bad structures change nothing (`read_none`); of good ones the words are zeroed and filled (`read_done`).
use mathlib.Core.Path.{sym, ap, ◌∙◌}
use native.Mathlib.Omega.{arith}
use lib.ListN.{drop}
use Rattle.rules.specs.Streams.{streams_in}
use Rattle.rules.proofs.Streams.{separate-step}
use Rattle.reading.proofs.Laws.{behind}
use Rattle.reading.proofs.Steps.{end-found, end-unlisted}
use Rattle.streams.proofs.Laws.{read_none, read_done}
use borrow.Author.Rules.{rules}
use Rattle.streams.proofs.read.Goals as goal

pub returns-in_default : goal.returns-in_default
returns-in_default c =
    read_none c.args.p.now c.args.words.now c.args.kept.now
    (end-unlisted c.args.p.now (sym c.end_of.ensures ∙ c.in_default.is))

pub number4-n-requires : goal.number4-n-requires
number4-n-requires c =
    let e = sym c.end_of.ensures ∙ c.in-Some.is in
    let f = end-found c.args.p.now _ e in
    let k = separate-step c.args.p.now f.items f.rest f.is in
    omega (arith, k.long)

pub number2-requires : goal.number2-requires
number2-requires c =
    let e = sym c.end_of.ensures ∙ c.in-Some.is in
    let f = end-found c.args.p.now _ e in
    let k = separate-step c.args.p.now f.items f.rest f.is in
    omega (arith, k.long)

pub slice_bounds-fill-count : goal.slice_bounds-fill-count
slice_bounds-fill-count c =
    let e = sym c.end_of.ensures ∙ c.in-Some.is in
    let f = end-found c.args.p.now _ e in
    let k = separate-step c.args.p.now f.items f.rest f.is in
    omega (arith, k.long)

pub slice_bounds-fill-start : goal.slice_bounds-fill-start
slice_bounds-fill-start c =
    let e = sym c.end_of.ensures ∙ c.in-Some.is in
    let f = end-found c.args.p.now _ e in
    let k = separate-step c.args.p.now f.items f.rest f.is in
    omega (arith, k.long)

pub fill-requires : goal.fill-requires
fill-requires c =
    let e = sym c.end_of.ensures
    ∙ c.in-Some.is in
    let f = end-found c.args.p.now _ e in
    let k = separate-step c.args.p.now f.items f.rest f.is in
    record {
      few = omega (arith, k.few, c.number4-n.ensures);
      items = f.items;
      rest = f.rest;
      good = ap (λ x. streams_in c.number4-n.result x) (behind 6 c.args.p.now)
          ∙ ap (λ x. streams_in x (drop 6 c.args.p.now)) c.number4-n.ensures ∙ k.streams;
      wide = search rules;
      long = search rules;
    }

pub returns : goal.returns
returns c =
    let e = sym c.end_of.ensures ∙ c.in-Some.is
    in
    let f = end-found c.args.p.now _ e in
    let k = separate-step c.args.p.now f.items f.rest f.is in
    read_done c.args.p.now c.args.words.now c.args.kept.now f
    c.number4-n.ensures c.number2.ensures
    (behind 6 c.args.p.now) c.fill.ensures
