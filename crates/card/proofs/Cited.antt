-- The contracts in src/main.rt, as the toolchain reads them: that of `run` is what proofs/Given shows to be met, that of `play` what
-- proofs/Whole says of the whole program. By computing, so that whoever edits one side alone is refused here. a: what a function is handed,
-- z: what the lent memory is at its end, r: what it returns.
use mathlib.Core.Path.{◌≡◌, refl}
use mathlib.Core.List.{List, [], ◌∷◌}
use Prim.Native.Nat.{ℕ, ◌≤◌}
use lib.ListN.{length}
use base.Logic.{SProp}
use seplogic.Ra.Ura.{Ura}
use types.Logic.{Logic}
use prog.Memory as store
use prog.Routine.{Routine}
use contract.Lifetimes.{Lfts}
use contract.Monad.{Fun}
use contract.Notation.{Connectives, connectives}
use denote.Ref.{Bor}
use denote.Triple.Clauses.{AtExit}
use denote.Triple.Entry.{Args, Res}
use Rattle.rules.specs.Bytes.{padded}
use Rattle.rules.specs.Calls.{fresh}
use Rattle.rules.specs.Card.{card_name, card_room}
use Rattle.memory.specs.Memory.{shown}
use Rattle.engine.specs.Lent.{Lent}
use Rattle.engine.proofs.Held.{kind, Holds, Same, InRoom, bytes-held}
use Rattle.card.specs.Ran.{Ran, Stopped}
use Rattle.card.proofs.Whole.{Bytes}
use Rattle.card.specs.contracts.run as running
use Rattle.card.specs.contracts.play as playing

module _ {M : Type 1} {𝓤 : Ura M} (𝓛 : Logic 𝓤) (mem : store.Memory → SProp 𝓤) (run : Routine → Fun 𝓤) where
  abbrev 𝓝 : Connectives 𝓤
  𝓝 = connectives 𝓤

  open 𝓝 use {⌜◌⌝, ◌∗◌, ⊤ₛ}

  -- run(m, b, l, out)
  module _ (κs : Lfts 4) (a : Args running.signature κs) (r : Res running.signature κs) (z : AtExit running.ended κs) where
    pub run-requires : (running.clauses 𝓛 mem run κs a).requires tt
        ≡ ⌜ Lent a.0.now a.1.0.now ⌝ ∗ ⌜ card_room ≤ length a.1.1.1.0.now ⌝
    run-requires = refl

    pub run-ensures : (running.clauses 𝓛 mem run κs a).ensures tt r z
        ≡ ⌜ Ran (shown a.0.now a.1.0.now) a.1.1.0.now r z.0.now z.1.0.now z.1.1.1.0.now ⌝
    run-ensures = refl

  -- play(stdin, stdout)
  module _ (κs : Lfts 0) (a : Args playing.signature κs) (r : Res playing.signature κs) (z : AtExit playing.ended κs) where
    pub play-requires : (playing.clauses 𝓛 mem run κs a).requires tt ≡ ⊤ₛ
    play-requires = refl

    pub play-ensures : (playing.clauses 𝓛 mem run κs a).ensures tt r z ≡ ⌜ Stopped (fresh (padded card_name)).splicer r ⌝
    play-ensures = refl

-- a piece is what a &[u8] may be, and no less
pub bytes-typed : (κs : Lfts 4) (l : Bor (List ℕ)) → Same (Holds (kind running.signature κs 2) l) (Bytes (l.now ∷ []) × InRoom l.now)
bytes-typed κs l = let b = bytes-held κs.1.1.0 l in ((λ h. (((b.0 h).0, tt), (b.0 h).1)), λ t. b.1 (t.0.0, t.1))
