-- The contract of `play` in src/main.rt, as the toolchain reads it, is what proofs/Whole says of the whole program: by computing, so that
-- whoever edits one side alone is refused here. r: what it returns.
use mathlib.Core.Path.{◌≡◌, refl}
use base.Logic.{SProp}
use seplogic.Ra.Ura.{Ura}
use types.Logic.{Logic}
use prog.Memory as store
use prog.Routine.{Routine}
use contract.Lifetimes.{Lfts}
use contract.Monad.{Fun}
use contract.Notation.{Connectives, connectives}
use denote.Triple.Clauses.{AtExit}
use denote.Triple.Entry.{Args, Res}
use Rattle.remember.specs.Remembered.{fresh_log, Stopped}
use Rattle.remember.specs.contracts.play as playing

module _ {M : Type 1} {𝓤 : Ura M} (𝓛 : Logic 𝓤) (mem : store.Memory → SProp 𝓤) (run : Routine → Fun 𝓤) where
  abbrev 𝓝 : Connectives 𝓤
  𝓝 = connectives 𝓤

  open 𝓝 use {⌜◌⌝, ⊤ₛ}

  module _ (κs : Lfts 0) (a : Args playing.signature κs) (r : Res playing.signature κs) (z : AtExit playing.ended κs) where
    pub play-requires : (playing.clauses 𝓛 mem run κs a).requires tt ≡ ⊤ₛ
    play-requires = refl

    pub play-ensures : (playing.clauses 𝓛 mem run κs a).ensures tt r z ≡ ⌜ Stopped fresh_log r ⌝
    play-ensures = refl
