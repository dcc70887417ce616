-- The contract of `read_and_judge` in src/main.rt, as the toolchain reads it, is what `program-finds` of proofs/Laws speaks of: by
-- computing, so that whoever edits one side alone is refused here. r: what it returns.
use mathlib.Core.Path.{◌≡◌, refl}
use base.Logic.{SProp}
use seplogic.Ra.Ura.{Ura}
use types.Logic.{Logic}
use prog.Memory as store
use prog.Routine.{Routine}
use contract.Lifetimes.{Lfts}
use contract.Monad.{Fun}
use contract.Notation.{Connectives, connectives}
use denote.Triple.Clauses.{AtExit}
use denote.Triple.Entry.{Args, Res}
use Rattle.checker.specs.Input.{Judges}
use Rattle.checker.specs.contracts.read_and_judge as judging

module _ {M : Type 1} {𝓤 : Ura M} (𝓛 : Logic 𝓤) (mem : store.Memory → SProp 𝓤) (run : Routine → Fun 𝓤) where
  abbrev 𝓝 : Connectives 𝓤
  𝓝 = connectives 𝓤

  open 𝓝 use {⌜◌⌝, ⊤ₛ}

  module _ (κs : Lfts 0) (a : Args judging.signature κs) (r : Res judging.signature κs) (z : AtExit judging.ended κs) where
    pub judge-requires : (judging.clauses 𝓛 mem run κs a).requires tt ≡ ⊤ₛ
    judge-requires = refl

    pub judge-ensures : (judging.clauses 𝓛 mem run κs a).ensures tt r z ≡ ⌜ Judges r ⌝
    judge-ensures = refl
