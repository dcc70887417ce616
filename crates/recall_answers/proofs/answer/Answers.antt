-- Each return is one of the five steps (`first` to `fifth`).
use mathlib.Core.Path.{ap}
use mathlib.Core.Bool.{not}
use native.Mathlib.Omega.{arith}
use Rattle.recall_answers.proofs.Laws.{first, second, third, fourth, fifth}
use Rattle.recall_answers.proofs.answer.Goals as goal

pub returns-then-id-eq0 : goal.returns-then-id-eq0
returns-then-id-eq0 c =
    let if1 = c.if-id-eq0 in
    let said = c.said in
    first c.args.conn c.args.id c.args.d.now c.args.h c.args.m.now if1.true said.ensures

pub link_of-link-requires : goal.link_of-link-requires
link_of-link-requires c =
    c.requires.conn_bound

pub general-requires : goal.general-requires
general-requires c =
    omega (arith, c.requires.in_bounds)

pub returns-then-is_barred : goal.returns-then-is_barred
returns-then-is_barred c =
    let if1 = c.if-id-eq0 in
    let is-barred = c.is_barred in
    let if2 = c.if-is_barred in
    let general = c.general in
    second c.args.conn c.args.id c.args.d.now c.args.h c.args.m.now if1.false
    c.link_of-link.ensures is-barred.ensures if2.true general.ensures

pub returns-then-id-eq13 : goal.returns-then-id-eq13
returns-then-id-eq13 c =
    let if1 = c.if-id-eq0 in
    let is-barred = c.is_barred in
    let if2 = c.if-is_barred in
    let if3 = c.if-id-eq13 in
    let said2 = c.said-then-id-eq13 in
    third c.args.conn c.args.id c.args.d.now c.args.h c.args.m.now if1.false
    c.link_of-link.ensures is-barred.ensures if2.false if3.true said2.ensures

pub general-requires-then-not-is_read : goal.general-requires-then-not-is_read
general-requires-then-not-is_read c =
    omega (arith, c.requires.in_bounds)

pub returns-then-not-is_read : goal.returns-then-not-is_read
returns-then-not-is_read c =
    let if1 = c.if-id-eq0 in
    let is-barred = c.is_barred in
    let if2 = c.if-is_barred in
    let if3 = c.if-id-eq13 in
    let is_read = c.is_read in
    let if4 = c.if-not-is_read in
    let general2 = c.general-then-not-is_read in
    fourth c.args.conn c.args.id c.args.d.now c.args.h c.args.m.now if1.false
    c.link_of-link.ensures is-barred.ensures if2.false if3.false is_read.ensures (ap not if4.true) general2.ensures

pub answer_read-requires : goal.answer_read-requires
answer_read-requires c =
    record { keeps = c.requires.keeps; clock_lt_horizon = c.requires.clock_lt_horizon; in_bounds = c.requires.in_bounds }

pub returns : goal.returns
returns c =
    let if1 = c.if-id-eq0 in
    let is-barred = c.is_barred in
    let if2 = c.if-is_barred in
    let if3 = c.if-id-eq13 in
    let is_read = c.is_read in
    let if4 = c.if-not-is_read in
    let answer-read = c.answer_read in
    fifth c.args.conn c.args.id c.args.d.now c.args.h c.args.m.now if1.false
    c.link_of-link.ensures is-barred.ensures if2.false if3.false is_read.ensures (ap not if4.false) answer-read.ensures
