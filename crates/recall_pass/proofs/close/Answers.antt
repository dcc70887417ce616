-- Each return is one law of proofs/Calls. The room for the records comes from what the verdicts show (`close-room`).
use mathlib.Core.Path.{sym, ap, ◌∙◌}
use mathlib.Core.List.{[]}
use Prim.Native.Nat.{◌*◌}
use lib.Seq.{length-take-le}
use Rattle.std.specs.Prelude.{None}
use Rattle.std.proofs.lemmas.Result.{err_from_is_err_and}
use Rattle.recall_answers.specs.Replies.{hardwares}
use Rattle.recall_rows.specs.Rows.{width}
use Rattle.recall_pass.specs.Passes.{rows_of, replaced}
use Rattle.recall_pass.proofs.Calls.{close-room, shuts-bad, shuts, tested-low, plays-as}
use Rattle.recall_pass.proofs.close.Goals as goal

pub returns-in_err-tested : goal.returns-in_err-tested
returns-in_err-tested c =
    let p = err_from_is_err_and c.from_residual.result c.from_residual.ensures.1 in
    let h = c.args.h in
    let m = c.args.m.now in
    λ l.
    rw (p.1, p.2) (shuts-bad c.args.conn h m c.args.out.now c.requires.fits l (c.tested.ensures (hardwares l h) (rows_of h m))
    c.in_err-tested.was)

pub slice_bounds-close-end-2 : goal.slice_bounds-close-end-2
slice_bounds-close-end-2 c =
    sym (length-take-le (c.args.h.rows * width) c.args.m.now c.requires.fits)

pub close-len-requires : goal.close-len-requires
close-len-requires c =
    close-room c.args.conn c.args.out.now c.requires.keeps
    (tested-low c.args.conn _ _ (c.tested.ensures [] []) c.in_ok-tested.was).1

pub linked-requires : goal.linked-requires
linked-requires c = (tested-low c.args.conn _ _ (c.tested.ensures [] []) c.in_ok-tested.was).0

pub placed-requires : goal.placed-requires
placed-requires c = (tested-low c.args.conn _ _ (c.tested.ensures [] []) c.in_ok-tested.was).0

pub returns : goal.returns
returns c =
    let h = c.args.h in
    let m = c.args.m.now in
    λ l.
    plays-as c.unmoved.ensures
    (shuts c.args.conn h m c.args.out.now c.requires.fits l (c.tested.ensures (hardwares l h) (rows_of h m)) c.in_ok-tested.was
    c.close-len.auto.m c.close-len.ensures (c.placed.ensures ∙ ap (λ x. replaced c.args.conn None x) c.linked.ensures))
