-- The contracts in src/lib.rt, as the toolchain reads them, are what specs/InC says of the calls, by computing: whoever edits one side
-- alone is
-- refused here. a: what the call is handed, z: what the lent memory is at its end.
use mathlib.Core.Path.{◌≡◌, refl, sym, ap, ◌∙◌}
use mathlib.Core.List.{List, []}
use Prim.Native.Nat.{ℕ, ◌<◌}
use lib.ListN.{length}
use base.Logic.{SProp}
use seplogic.Ra.Ura.{Ura}
use types.Logic.{Logic}
use prog.Memory as store
use prog.Routine.{Routine}
use contract.Lifetimes.{Lfts}
use contract.Monad.{Fun}
use contract.Notation.{Connectives, connectives}
use denote.Ref.{Bor}
use denote.Triple.Clauses.{AtExit}
use denote.Triple.Entry.{Args, Res}
use Rattle.rules.specs.Lists.{All}
use Rattle.rules.specs.Follows.Wires.{Byte}
use Rattle.engine.proofs.Held.{kind, Holds, Same, both, number-held, InRoom, bytes-held}
use Rattle.recording.specs.Recording.{checked}
use Rattle.rules.specs.Calls.{Call, opens, closes, messages, ticks}
use Rattle.rules.specs.HouseNumbers.{lending_maps}
use Rattle.recall.proofs.Calls.{remembers-same, forgets-same}
use Rattle.follow.specs.Following as referee
use Rattle.follow.specs.Following.{end_by}
use Rattle.door_bench.specs.Bench.{words_of, reply_words, Tells, TellsFresh}
use Rattle.door_bench.specs.Referee.{stage_in, verdict_words, part_of, TellsBegun, TellsFed}
use Rattle.door_bench.specs.contracts.splicer_bench_2_check as check
use Rattle.door_bench.specs.contracts.splicer_bench_2_referee_fresh as begun
use Rattle.door_bench.specs.contracts.splicer_bench_2_referee_feed as fed
use Rattle.door_bench.specs.contracts.splicer_bench_2_referee_end as ended
use Rattle.door_bench.specs.contracts.splicer_bench_2_referee_due as due
use Rattle.door_bench.specs.contracts.splicer_bench_2_recall_fresh as freshly
use Rattle.door_bench.specs.contracts.splicer_bench_2_recall_open as opening
use Rattle.door_bench.specs.contracts.splicer_bench_2_recall_close as close
use Rattle.door_bench.specs.contracts.splicer_bench_2_recall_message as message
use Rattle.door_bench.specs.contracts.splicer_bench_2_recall_tick as tick

module _ {M : Type 1} {𝓤 : Ura M} (𝓛 : Logic 𝓤) (mem : store.Memory → SProp 𝓤) (run : Routine → Fun 𝓤) where
  abbrev 𝓝 : Connectives 𝓤
  𝓝 = connectives 𝓤

  open 𝓝 use {⌜◌⌝, ⊤ₛ}

  -- splicer_bench_2_check(recording, reply)
  module _ (κs : Lfts 2) (a : Args check.signature κs) (r : Res check.signature κs) (z : AtExit check.ended κs) where
    -- it asks nothing
    pub check-requires : (check.clauses 𝓛 mem run κs a).requires tt ≡ ⊤ₛ
    check-requires = refl

    pub check-ensures : (check.clauses 𝓛 mem run κs a).ensures tt r z ≡ ⌜ z.1.0.now ≡ words_of (checked a.0.now) ⌝
    check-ensures = refl

  -- ## The referee: feed asks that the memory is what fresh and the feeds since have given, and the others ask nothing

  -- splicer_bench_2_referee_fresh(name, words, bytes, stage, reply)
  module _ (κs : Lfts 5) (a : Args begun.signature κs) (r : Res begun.signature κs) (z : AtExit begun.ended κs) where
    pub begun-requires : (begun.clauses 𝓛 mem run κs a).requires tt ≡ ⊤ₛ
    begun-requires = refl

    pub begun-ensures : (begun.clauses 𝓛 mem run κs a).ensures tt r z
        ≡ ⌜ TellsBegun a.0.now z.1.0.now z.1.1.0.now z.1.1.1.0.now z.1.1.1.1.0.now ⌝
    begun-ensures = refl

  -- splicer_bench_2_referee_feed(words, bytes, due, kept, stage, piece, reply)
  module _ (κs : Lfts 7) (a : Args fed.signature κs) (r : Res fed.signature κs) (z : AtExit fed.ended κs) where
    pub fed-requires : (fed.clauses 𝓛 mem run κs a).requires tt
        ≡ ⌜ referee.Holds (stage_in a.1.1.1.1.0.now) a.0.now a.1.0.now a.1.1.0.now a.1.1.1.0.now ⌝
    fed-requires = refl

    pub fed-ensures : (fed.clauses 𝓛 mem run κs a).ensures tt r z
        ≡ ⌜ TellsFed a.1.1.1.1.1.0.now a.1.1.1.1.0.now a.0.now a.1.0.now a.1.1.0.now
        a.1.1.1.0.now
        z.1.1.1.1.0.now z.0.now z.1.0.now z.1.1.0.now z.1.1.1.0.now z.1.1.1.1.1.1.0.now ⌝
    fed-ensures = refl

  -- splicer_bench_2_referee_end(stage, reply)
  module _ (κs : Lfts 2) (a : Args ended.signature κs) (r : Res ended.signature κs) (z : AtExit ended.ended κs) where
    pub end-requires : (ended.clauses 𝓛 mem run κs a).requires tt ≡ ⊤ₛ
    end-requires = refl

    pub end-ensures : (ended.clauses 𝓛 mem run κs a).ensures tt r z ≡ ⌜ z.1.0.now ≡ verdict_words (end_by (stage_in a.0.now)) ⌝
    end-ensures = refl

  -- splicer_bench_2_referee_due(stage, part)
  module _ (κs : Lfts 2) (a : Args due.signature κs) (r : Res due.signature κs) (z : AtExit due.ended κs) where
    pub due-requires : (due.clauses 𝓛 mem run κs a).requires tt ≡ ⊤ₛ
    due-requires = refl

    pub due-ensures : (due.clauses 𝓛 mem run κs a).ensures tt r z ≡ ⌜ z.1.0.now ≡ part_of (stage_in a.0.now) ⌝
    due-ensures = refl

  -- ## 02, CR 12: the log is any bytes, so nothing is asked

  -- splicer_bench_2_recall_fresh(log, reply)
  module _ (κs : Lfts 2) (a : Args freshly.signature κs) (r : Res freshly.signature κs) (z : AtExit freshly.ended κs) where
    pub fresh-requires : (freshly.clauses 𝓛 mem run κs a).requires tt ≡ ⊤ₛ
    fresh-requires = refl

    pub fresh-ensures : (freshly.clauses 𝓛 mem run κs a).ensures tt r z ≡ ⌜ TellsFresh a.0.now z.1.0.now z.0.now ⌝
    fresh-ensures = refl

  -- splicer_bench_2_recall_open(log, conn, reply)
  module _ (κs : Lfts 2) (a : Args opening.signature κs) (r : Res opening.signature κs) (z : AtExit opening.ended κs) where
    pub open-requires : (opening.clauses 𝓛 mem run κs a).requires tt ≡ ⊤ₛ
    open-requires = refl

    pub open-ensures : (opening.clauses 𝓛 mem run κs a).ensures tt r z
        ≡ ⌜ Tells (opens a.1.0) a.0.now [] z.1.1.0.now z.0.now [] ⌝
    open-ensures = refl

  -- splicer_bench_2_recall_close(log, conn, out, reply)
  module _ (κs : Lfts 3) (a : Args close.signature κs) (r : Res close.signature κs) (z : AtExit close.ended κs) where
    pub close-requires : (close.clauses 𝓛 mem run κs a).requires tt ≡ ⊤ₛ
    close-requires = refl

    pub close-ensures : (close.clauses 𝓛 mem run κs a).ensures tt r z
        ≡ ⌜ Tells (closes a.1.0 (length a.1.1.0.now)) a.0.now a.1.1.0.now z.1.1.1.0.now z.0.now
        z.1.1.0.now ⌝
    close-ensures = refl

  -- splicer_bench_2_recall_message(log, conn, l, primary, insertion, out, reply)
  module _ (κs : Lfts 5) (a : Args message.signature κs) (r : Res message.signature κs) (z : AtExit message.ended κs) where
    pub message-requires : (message.clauses 𝓛 mem run κs a).requires tt ≡ ⊤ₛ
    message-requires = refl

    pub message-ensures : (message.clauses 𝓛 mem run κs a).ensures tt r z
        ≡ ⌜ Tells
        (messages a.1.0 a.1.1.0.now (lending_maps a.1.1.1.0.now a.1.1.1.1.0.now
        (length a.1.1.1.1.1.0.now)))
        a.0.now a.1.1.1.1.1.0.now z.1.1.1.1.1.1.0.now z.0.now z.1.1.1.1.1.0.now ⌝
    message-ensures = refl

  -- splicer_bench_2_recall_tick(log, seconds, micros, out, reply)
  module _ (κs : Lfts 3) (a : Args tick.signature κs) (r : Res tick.signature κs) (z : AtExit tick.ended κs) where
    pub tick-requires : (tick.clauses 𝓛 mem run κs a).requires tt ≡ ⊤ₛ
    tick-requires = refl

    pub tick-ensures : (tick.clauses 𝓛 mem run κs a).ensures tt r z
        ≡ ⌜ Tells (ticks a.1.0 a.1.1.0 (length a.1.1.1.0.now)) a.0.now a.1.1.1.0.now
        z.1.1.1.1.0.now z.0.now z.1.1.1.0.now ⌝
    tick-ensures = refl

-- ## What the parameters' types say, and no more: what door's Typed says of the same call (demands_recall/proofs/Any)

pub open-typed : (κs : Lfts 2) (conn : ℕ) → Same (Holds (kind opening.signature κs 1) conn) (conn < 4294967296)
open-typed κs conn = number-held conn

pub close-typed : (κs : Lfts 3) (conn : ℕ) → Same (Holds (kind close.signature κs 1) conn) (conn < 4294967296)
close-typed κs conn = number-held conn

pub tick-typed : (κs : Lfts 3) (seconds micros : ℕ)
    → Same (Holds (kind tick.signature κs 1) seconds × Holds (kind tick.signature κs 2) micros)
    ((seconds < 4294967296) × (micros < 4294967296))
tick-typed κs seconds micros = both (number-held seconds) (number-held micros)

pub message-typed : (κs : Lfts 5) (conn : ℕ) (l pm im : Bor (List ℕ))
    → Same (Holds (kind message.signature κs 1) conn × Holds (kind message.signature κs 2) l
    × Holds (kind message.signature κs 3) pm × Holds (kind message.signature κs 4) im)
    (((conn < 4294967296) × All Byte l.now × All Byte pm.now × All Byte im.now) × InRoom l.now × InRoom pm.now × InRoom im.now)
message-typed κs conn l pm im =
    let n = number-held conn in
    let b = bytes-held κs.1.0 l in
    let p = bytes-held κs.1.1.0 pm in
    let i = bytes-held κs.1.1.0 im in (
      (λ h. ((n.0 h.0, (b.0 h.1).0, (p.0 h.2).0, (i.0 h.3).0), (b.0 h.1).1, (p.0 h.2).1, (i.0 h.3).1)),
      (λ t. (n.1 t.0.0, b.1 (t.0.1, t.1), p.1 (t.0.2, t.2), i.1 (t.0.3, t.3))),
    )

-- any two results that the promise allows are equal
pub check-same : (l r s : List ℕ) → r ≡ words_of (checked l) → s ≡ words_of (checked l) → r ≡ s
check-same l r s e f = e ∙ sym f

pub tells-same : (k : Call) (l e : List ℕ) {w v n m o p : List ℕ} → Tells k l e w n o → Tells k l e v m p
    → (w ≡ v) × (n ≡ m) × (o ≡ p)
tells-same k l e a b =
    let s = remembers-same k l e a.remembers b.remembers in
    (a.words ∙ ap reply_words s.0 ∙ sym b.words, s.1, s.2)

pub tells-fresh-same : (l : List ℕ) {w v n m : List ℕ} → TellsFresh l w n → TellsFresh l v m → (w ≡ v) × (n ≡ m)
tells-fresh-same l a b =
    let s = forgets-same l a.forgets b.forgets in
    (a.words ∙ ap reply_words s.0 ∙ sym b.words, s.1)
