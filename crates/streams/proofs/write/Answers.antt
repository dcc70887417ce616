-- A bad list writes nothing (`write-none`); of a good one `put_list` promises the same.
use mathlib.Core.Bool.{or-true}
use mathlib.Core.Path.{sym, ◌∙◌}
use native.Mathlib.Omega.{arith}
use borrow.Author.Tests.{lt-ltb}
use lib.ListN.{get_or, drop}
use Rattle.rules.specs.Streams.{highest_pid, most_streams}
use Rattle.streams.proofs.Laws.{judged-none, write-none}
use borrow.Author.Rules.{rules}
use Rattle.streams.proofs.write.Goals as goal
use Rattle.streams.proofs.write.Goals.{then-from-words-via-then-from-words, then-from-words-via-else-from-words+then-from-words-2}

pub returns-then-from-words : goal.returns-then-from-words
returns-then-from-words c =
    let w = c.args.words.now in
    elim c.then-from-words.branch [
      | then-from-words-via-then-from-words v ↦ write-none w c.args.kept.now c.args.out.now
          (rw (lt-ltb most_streams (get_or w 0 0) (omega (arith, v.if-from-words.true, c.from.ensures))))
      | then-from-words-via-else-from-words+then-from-words-2 v ↦ write-none w c.args.kept.now c.args.out.now
          (rw (lt-ltb highest_pid (get_or w 1 0) (omega (arith, v.if-from-words-2.true, v.from-else-from-words.ensures))) (simp or-true))
    ]

pub returns-in_default : goal.returns-in_default
returns-in_default c =
    let w = c.args.words.now in
    let j = judged-none (get_or w 0 0) (drop 2 w) (sym c.size_of.ensures ∙ c.in_default.is) in
    write-none w c.args.kept.now c.args.out.now (rw j (simp or-true))

pub put_list-requires : goal.put_list-requires
put_list-requires c =
    record {
      few = omega (arith, c.if-from-words.false, c.from.ensures);
      pcr =
          omega (arith, c.if-from-words-2.false, c.from-else-from-words.ensures);
      wide = search rules;
      long =
          search rules;
      rows = sym c.size_of.ensures
          ∙ c.in-Some.is;
    }
