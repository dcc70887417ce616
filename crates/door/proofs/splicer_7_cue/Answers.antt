-- What is given is the PTS and its instant; the rest is the engine's.
use mathlib.Core.Path.{subst}
use lib.ListN.{length}
use Rattle.rules.specs.Calls.{cue_call}
use Rattle.memory.specs.Memory.{see, shown}
use Rattle.relay.specs.declared.Anchor.{Anchor}
use Rattle.engine.specs.Lent.{Answers}
use Rattle.door.proofs.splicer_7_cue.Goals as goal

pub returns : goal.returns
returns c =
    let m = c.args.words.now in
    let b = c.args.bytes.now in
    let e = c.args.out.now in
    let l = c.args.section.now in
    let cue = c.cue-a in
    let at = c.anchor_of in
    record {
      answer = cue.result;
      answers = subst (λ (a : Anchor). Answers (cue_call l a.pts a.seconds a.micros (length e) (shown m b)) (see m).ring_end e
          cue.result m b cue.new.out) at.ensures cue.ensures;
      reply = c.reply_of.ensures;
    }
