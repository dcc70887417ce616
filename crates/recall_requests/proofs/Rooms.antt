-- A buffer that no call refuses has room for either answer.
-- Rests on rules' sizes of a turn, and on that the answers over verdicts are those of the queue that they show.
use mathlib.Core.Path.{◌≡◌, ap}
use mathlib.Core.Bool.{false}
use mathlib.Core.List.{List, [], ◌∷◌}
use Prim.Native.Nat.{ℕ, ◌+◌, ◌*◌, ◌≤◌}
use native.Mathlib.Omega.{arith}
use lib.Dec.{eqb}
use lib.ListN.{length}
use borrow.Author.Tests.{ltb-false}
use Rattle.rules.specs.declared.Request.{Request}
use Rattle.rules.specs.Records.{SpliceResponse, AbortResponse}
use Rattle.rules.specs.State.{Queue, holds}
use Rattle.rules.specs.Ends.{Turn, and_then, evicted, aborted}
use Rattle.rules.specs.Answers as answers
use Rattle.rules.specs.Splicing as splicing
use Rattle.rules.specs.Splicing.{Spliced, requested, splice_result, accepts, accepted}
use Rattle.rules.specs.HouseNumbers.{no_room}
use Rattle.rules.proofs.Tests.{by}
use Rattle.rules.proofs.Size.{weight, weight-one, weight-append, evicted-lean, aborted-lean}
use Rattle.rules.proofs.Sound.{few-wait, few-started}
use Rattle.recall_rules.specs.Work.{answer_abort}
use Rattle.recall_rules.proofs.Answers.{splice-same, abort-same}
use Rattle.recall_ends.specs.Does.{all, Room}
use Rattle.recall_instants.specs.Moments.{Keeps}
use Rattle.recall_requests.specs.Admits.{spliced}

-- of the queue q: one record, behind it 14 bytes for each that waits and 23 for each that has started
abbrev most : Queue → ℕ
most q = 14 + (14 * length q.waiting + 23 * length q.started)

splice-size : (clock c : ℕ) (r : Request) (q : Queue) → weight (splicing.answer_splice clock c r q).turn.written ≤ most q
unfolding splicing.answer_splice accepted and_then
splice-size clock c r q =
    let new = requested c r q in
    let n = splice_result clock c r new q in
    by (λ (a : Spliced). weight a.turn.written ≤ most q) (eqb n 100) _ _
    (λ e. omega (
      arith,
      weight-append (evicted new.start.0 q).written (accepts new ∷ []),
      weight-one (accepts new) tt,
      evicted-lean new.start.0 q,
    ))
    (λ e. omega (arith, weight-one (SpliceResponse c n r.id) tt))

abort-size : (c x : ℕ) (q : Queue) → weight (answers.answer_abort c x q).written ≤ most q
unfolding answers.answer_abort and_then
abort-size c x q =
    by (λ (t : Turn). weight t.written ≤ most q) (holds c x q) _ _
    (λ e. omega (
      arith,
      weight-append (AbortResponse c 100 x ∷ []) (aborted c x q).written,
      weight-one (AbortResponse c 100 x) tt,
      aborted-lean c x q,
    ))
    (λ e. omega (arith, weight-one (AbortResponse c 121 x) tt))

module _ {at : ℕ} (m e : List ℕ) (k : Keeps at (all m)) (h : no_room (length e) ≡ false) where
  abbrev q : Queue
  q = k.queue

  fits : most q ≤ length e
  fits = omega (arith, few-wait k.holding, few-started k.holding, ltb-false (length e) _ h)

  pub splice-room : (clock c : ℕ) (r : Request) → Room (spliced clock c r) 0 m e
  splice-room clock c r =
      omega (arith, ap weight (splice-same at (all m) q k.shows k.holding clock c r).turn.written, splice-size clock c r q, fits)

  pub abort-room : (c x : ℕ) → Room (answer_abort c x) 0 m e
  abort-room c x = omega (arith, ap weight (abort-same at (all m) q k.shows k.holding c x).written, abort-size c x q, fits)
