-- 13, a refusal, or the answer, GetConfig's record behind it, and the message kept. Rests on what `recall_pass` promises, and on Messages.
use Prim.Native.Nat.{ℕ, ◌≤◌}
use Rattle.std.proofs.lemmas.Result.{err_from_is_err_and}
use Rattle.recall_pass.proofs.Laws.{passed-ready}
use Rattle.recall_log.proofs.Logs.{not_full}
use Rattle.recall.proofs.Calls.{found-full, found-there, begins-with}
use Rattle.recall.proofs.Messages.{both-short, framed-here, chosen, brief, message-refused, message-low, message-within}
use Rattle.recall.proofs.Messages.{message-whole}
use Rattle.rules.proofs.All.{all-at}
use Rattle.rules.specs.Follows.Wires.{Byte}
use Rattle.rules.specs.HouseNumbers.{lending_maps, longest_section}
use Rattle.rules.specs.Calls.{messages}
use borrow.Author.Rules.{rules}
use lib.Dec.{eqb}
use lib.ListN.{length}
use mathlib.Core.Bool.{cond}
use mathlib.Core.List.{List}
use mathlib.Core.Path.{sym, subst, ap, ◌∙◌}
use native.Mathlib.Omega.{arith}
use Rattle.recall.proofs.message.Goals as goal

pub returns-in_err-at : goal.returns-in_err-at
returns-in_err-at c =
    let p = err_from_is_err_and c.from_residual.result c.from_residual.ensures.1 in
    let loans = lending_maps c.args.primary.now c.args.insertion.now (length c.args.out.now) in
    rw (p.1, p.2) (found-full (messages c.args.conn c.args.l.now loans) c.args.log.now c.args.out.now c.begin.ensures
    c.in_err-at.was)

pub pass-h-requires : goal.pass-h-requires
pass-h-requires c =
    record {
      log_len_bound = (not_full c.args.log.now (found-there c.args.log.now c.begin.ensures c.in_ok-at.was).0).few;
      width_in_bounds = omega arith;
    }

pub returns-in_err-head : goal.returns-in_err-head
returns-in_err-head c =
    let p = err_from_is_err_and c.from_residual-in_err-head.result c.from_residual-in_err-head.ensures.1 in
    let l = c.args.log.now in
    let b = begins-with l c.begin.ensures c.in_ok-at.was c.pass-h.ensures in
    let loans = lending_maps c.args.primary.now c.args.insertion.now (length c.args.out.now) in
    rw (p.1, p.2) (message-refused l (all-at Byte 0 l (λ i. search rules)) b.0 b.2 c.args.conn c.args.l.now loans
    (framed-here b.2 c.args.conn c.args.l.now loans c.framed.ensures c.is_long.ensures c.in_err-head.was))

pub feed-requires : goal.feed-requires
feed-requires c = omega (arith, c.pass-h.ensures.fits)

pub data_of-d-requires : goal.data_of-d-requires
data_of-d-requires c =
    let l = c.args.log.now in
    let b = begins-with l c.begin.ensures c.in_ok-at.was c.pass-h.ensures in
    let loans = lending_maps c.args.primary.now c.args.insertion.now (length c.args.out.now) in
    (message-within l (all-at Byte 0 l (λ i. search rules)) b.0 b.2 c.args.conn c.args.l.now loans
    (framed-here b.2 c.args.conn c.args.l.now loans c.framed.ensures c.is_long.ensures c.in_ok-head.was)).0

pub hear-g-requires : goal.hear-g-requires
hear-g-requires c =
    let l = c.args.log.now in
    let b = begins-with l c.begin.ensures c.in_ok-at.was c.pass-h.ensures in
    let loans = lending_maps c.args.primary.now c.args.insertion.now (length c.args.out.now) in
    let low = (message-low l (all-at Byte 0 l (λ i. search rules)) b.0 b.2 c.args.conn c.args.l.now loans
    (framed-here b.2 c.args.conn c.args.l.now loans c.framed.ensures c.is_long.ensures c.in_ok-head.was)) in
    record { ready = passed-ready b.2; fits = b.2.fits; conn_bound = low.0; card_room_in_bounds = low.1 }

pub finish-len-requires : goal.finish-len-requires
finish-len-requires c =
    let l = c.args.log.now in
    let b = begins-with l c.begin.ensures c.in_ok-at.was c.pass-h.ensures in
    let loans = lending_maps c.args.primary.now c.args.insertion.now (length c.args.out.now) in
    let low = (message-low l (all-at Byte 0 l (λ i. search rules)) b.0 b.2 c.args.conn c.args.l.now loans
    (framed-here b.2 c.args.conn c.args.l.now loans c.framed.ensures c.is_long.ensures c.in_ok-head.was)) in
    let both = both-short c.args.primary.now c.args.insertion.now low.2 in
    let w : 4096 ≤ length c.args.out.now = low.1 in
    record {
      conn_bound = low.0;
      all = b.2.placed;
      section_len_bound =
          subst (λ (x : List ℕ). length x ≤ longest_section)
          (sym (ap (λ x. x.now) c.map_on_air-section.ensures ∙ chosen (λ x. x.now) (eqb c.feed.result 0) c.args.primary c.args.insertion))
          (brief (eqb c.feed.result 0) c.args.primary.now c.args.insertion.now both.0 both.1);
      card_room_in_bounds = search rules;
    }

pub overflow_cast-conn : goal.overflow_cast-conn
overflow_cast-conn c =
    let l = c.args.log.now in
    let b = begins-with l c.begin.ensures c.in_ok-at.was c.pass-h.ensures in
    let loans = lending_maps c.args.primary.now c.args.insertion.now (length c.args.out.now) in
    omega (
      arith,
      (message-low l (all-at Byte 0 l (λ i. search rules)) b.0 b.2 c.args.conn c.args.l.now loans
          (framed-here b.2 c.args.conn c.args.l.now loans c.framed.ensures c.is_long.ensures c.in_ok-head.was)).0,
    )

pub keep_message-requires : goal.keep_message-requires
keep_message-requires c =
    let l = c.args.log.now in
    let b = begins-with l c.begin.ensures c.in_ok-at.was c.pass-h.ensures in
    let loans = lending_maps c.args.primary.now c.args.insertion.now (length c.args.out.now) in
    let within = (message-within l (all-at Byte 0 l (λ i. search rules)) b.0 b.2 c.args.conn c.args.l.now loans
    (framed-here b.2 c.args.conn c.args.l.now loans c.framed.ensures c.is_long.ensures c.in_ok-head.was)) in
    record { behind = b.1; size_le_largest_size = within.1; size_in_bounds = within.0 }

pub returns : goal.returns
returns c =
    let l = c.args.log.now in
    let b = begins-with l c.begin.ensures c.in_ok-at.was c.pass-h.ensures in
    let loans = lending_maps c.args.primary.now c.args.insertion.now (length c.args.out.now) in
    message-whole l (all-at Byte 0 l (λ i. search rules)) b.0 b.2 c.args.conn c.args.l.now loans
    (framed-here b.2 c.args.conn c.args.l.now loans c.framed.ensures c.is_long.ensures c.in_ok-head.was) c.data_of-d.ensures
    ((ap (λ x. x.now) c.map_on_air-section.ensures ∙ chosen (λ x. x.now) (eqb c.feed.result 0) c.args.primary c.args.insertion)
    ∙ ap (λ (n : ℕ). cond (eqb n 0) c.args.primary.now c.args.insertion.now) c.feed.ensures) c.hear-g.ensures c.finish-len.ensures
    c.keep_message.ensures
