-- A short output stays as it was (`write-short`); else three parts, one directly behind the other (`write_done`).
use mathlib.Core.List.{◌++◌}
use mathlib.Core.Path.{ap, ◌∙◌}
use Prim.Native.Nat.{◌≤◌}
use native.Mathlib.Omega.{arith}
use lib.ListN.{length, get_or, drop, length-append}
use Rattle.rules.specs.Bytes.{bytes, written}
use Rattle.rules.specs.Streams.{streams_bytes}
use Rattle.rules.proofs.Bytes.{length-bytes}
use Rattle.rules.proofs.Written.{written_next, written-more}
use Rattle.streams.specs.Rows.{list_in}
use Rattle.streams.proofs.Laws.{judged-end, write-short, write_done, bytes-are}
use Rattle.streams.proofs.put_list.Goals as goal

pub overflow_add-size : goal.overflow_add-size
overflow_add-size c =
    let z = judged-end (get_or c.args.words.now 0 0) (drop 2 c.args.words.now) c.requires.rows in
    omega (arith, z.2, c.requires.few)

pub returns-then-out-size : goal.returns-then-out-size
returns-then-out-size c =
    write-short c.args.words.now c.args.kept.now c.args.out.now c.requires.few c.requires.long c.requires.rows (omega arith)

pub put_rows-requires : goal.put_rows-requires
put_rows-requires c =
    let z = judged-end (get_or c.args.words.now 0 0) (drop 2 c.args.words.now) c.requires.rows in
    record {
      few = c.requires.few;
      rows = c.requires.wide;
      good = z.0;
      kept = c.requires.long;
      room =
          omega (
            arith,
            z.1,
            c.if-out-size.false,
            c.out-1.given,
            c.out-2-1.given,
          );
    }

pub returns : goal.returns
returns c =
    let w = c.args.words.now in
    let k = c.args.kept.now in
    let e = c.args.out.now in
    let room : 6 ≤ length e = omega (arith, c.if-out-size.false) in
    let b0 = bytes 2 (get_or w 1 0) in
    let b1 = bytes 4 (get_or w 0 0) in
    let w1 =
    written_next e 0 b0 b1 c.put2.new.out
    c.put4.new.out 2 c.put2.ensures
    (simp length-bytes) (simp length-bytes (omega arith)) c.put4.ensures in
    let w2 = c.put_rows.ensures ∙ ap (λ x. written x 6 (streams_bytes (list_in (get_or w 0 0) (drop 2 w) k))) w1
    ∙ written-more e 0 (b0 ++ b1) (streams_bytes (list_in (get_or w 0 0) (drop 2 w) k)) 6 (simp (length-append, length-bytes) room)
    (simp (length-append, length-bytes)) in
    write_done w k e c.requires.few c.requires.long c.requires.rows c.requires.pcr
    (omega (arith, c.if-out-size.false)) (w2 ∙ ap (written e 0) (bytes-are w k))
