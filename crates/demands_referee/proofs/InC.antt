-- The same of the words that C sees, over any sequence of calls: what feed, end and due answer is what the definition says of all bytes.
-- Rests on proofs/Referee, and on that a stage comes back from its words.
use mathlib.Core.Path.{◌≡◌, sym, subst, ap, ◌∙◌}
use mathlib.Core.List.{List, [], ◌∷◌, ◌++◌}
use Prim.Native.Nat.{ℕ, ◌-◌}
use lib.ListN.{take, drop}
use Rattle.rules.specs.Lists.{All}
use Rattle.rules.specs.Follows.Wires.{Byte}
use Rattle.recording.specs.Recorded.{recorded}
use Rattle.follow.specs.declared.Stage.{Stage}
use Rattle.follow.specs.Refereed.{in_order, refereed, joined}
use Rattle.follow.specs.Following.{Begins, first, told_by, end_by}
use Rattle.follow.proofs.Saying.{begins-first}
use Rattle.door_bench.specs.Referee.{stage_in, verdict_words, part_of}
use Rattle.door_bench.proofs.Staged.{stage-back}
use Rattle.demands_referee.specs.Fed as plain
use Rattle.demands_referee.specs.Fed.{Referee, Fresh, Fed}
use Rattle.demands_referee.specs.InC.{Lent, BegunInC, FedInC, over, piece}
use Rattle.demands_referee.proofs.Beside.{ours}
use Rattle.demands_referee.proofs.Referee.{verdict, pieces-refereed, pieces-due, told-verdict, told-stays, own-in-order}

-- what is lent, as a referee
abbrev pub seen : Lent → Referee
seen s = record { stage = stage_in s.stage; words = s.words; bytes = s.bytes; due = s.due; kept = s.kept }

pub begun-seen : {name r : List ℕ} {s : Lent} → BegunInC name r s → Fresh name (seen s)
begun-seen {name} {r} {s} b =
    let t = b.tells in
    let e : first ≡ stage_in s.stage = sym (ap stage_in t.stage ∙ stage-back first) in
    subst (λ y. Begins name y s.words s.bytes s.due s.kept) e
    (begins-first s.words s.bytes name s.due s.kept t.answers.lent t.answers.splicer b.fits)

pub fed-seen : {s t : Lent} {ps rs : List (List ℕ)} → FedInC s ps rs t → Fed (seen s) ps (seen t)
fed-seen over = plain.over
fed-seen (piece x f) = plain.piece x.feeds (fed-seen f)

module _ {name r : List ℕ} {s t : Lent} {ps rs : List (List ℕ)} (b : BegunInC name r s) (f : FedInC s ps rs t) where
  -- v: what end answers
  pub pieces-refereed-in-c : {v : List ℕ} → v ≡ verdict_words (end_by (stage_in t.stage))
      → v ≡ verdict_words (verdict (refereed name (joined ps)))
  pieces-refereed-in-c e = e ∙ ap verdict_words (pieces-refereed (begun-seen b) (fed-seen f))

  -- where due says that it stands
  pub pieces-due-in-c : {i n : ℕ} → i ∷ n ∷ [] ≡ part_of (stage_in t.stage)
      → take n (drop i t.due) ≡ (refereed name (joined ps)).stand.bench.due
  unfolding part_of
  pieces-due-in-c {i} {n} e =
      let a : i ≡ (stage_in t.stage).from = cc in
      let c : n ≡ (stage_in t.stage).end - (stage_in t.stage).from = cc in
      ap (λ j. take n (drop j t.due)) a ∙ ap (λ j. take j (drop (stage_in t.stage).from t.due)) c
      ∙ pieces-due (begun-seen b) (fed-seen f)

  -- told once, it is what is found in the end, whatever follows; v: what a feed answered last
  pub told-for-good-in-c : ((stage_in t.stage).told ≡ in_order → ⊥) → {v : List ℕ} → v ≡ verdict_words (told_by (stage_in t.stage))
      → (more : List ℕ) → v ≡ verdict_words (verdict (refereed name (joined ps ++ more)))
  told-for-good-in-c z e more = e ∙ ap verdict_words (told-verdict (begun-seen b) (fed-seen f) z more)

-- once told, every further feed answers the same, and nothing that is lent changes
pub told-stays-in-c : {s t : Lent} {ps rs : List (List ℕ)} → FedInC s ps rs t → ((stage_in s.stage).told ≡ in_order → ⊥)
    → (stage_in t.stage ≡ stage_in s.stage) × (t.words ≡ s.words) × (t.bytes ≡ s.bytes) × (t.due ≡ s.due) × (t.kept ≡ s.kept)
told-stays-in-c f z = let a = told-stays (fed-seen f) z in (a.stage, a.words, a.bytes, a.due, a.kept)

pub told-again-in-c : {s t : Lent} {ps rs : List (List ℕ)} → FedInC s ps rs t → ((stage_in s.stage).told ≡ in_order → ⊥)
    → All (λ r. r ≡ verdict_words (told_by (stage_in s.stage))) rs
told-again-in-c over z = tt
told-again-in-c (piece {rs = rs} x f) z =
    let a = x.feeds.stays z in
    let e = a.stage in
    let g = told-again-in-c f (λ y. z (sym (ap (λ (u : Stage). u.told) e) ∙ y)) in
    (x.reply ∙ ap (λ u. verdict_words (told_by u)) e, subst (λ u. All (λ r. r ≡ verdict_words (told_by u)) rs) e g)

-- a recording of our own card program: while its bytes come nothing is told
pub own-in-order-in-c : {r : List ℕ} {s t : Lent} {ps rs : List (List ℕ)} → BegunInC ours r s → FedInC s ps rs t → (l more : List ℕ)
    → All Byte l → joined ps ++ more ≡ recorded l → (stage_in t.stage).told ≡ in_order
own-in-order-in-c b f l more a e = own-in-order (begun-seen b) (fed-seen f) l more a e
