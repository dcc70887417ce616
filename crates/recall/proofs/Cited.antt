-- The contracts in src/lib.rt, as the toolchain reads them, are what specs/Recall says of the calls, by computing: whoever edits one
-- side alone is refused here. a: what the call is handed, z: what the lent memory is at its end. None asks anything.
use mathlib.Core.Path.{◌≡◌, refl}
use mathlib.Core.List.{[]}
use lib.ListN.{length}
use base.Logic.{SProp}
use seplogic.Ra.Ura.{Ura}
use types.Logic.{Logic}
use prog.Memory as store
use prog.Routine.{Routine}
use contract.Lifetimes.{Lfts}
use contract.Monad.{Fun}
use contract.Notation.{Connectives, connectives}
use denote.Triple.Clauses.{AtExit}
use denote.Triple.Entry.{Args, Res}
use Rattle.rules.specs.HouseNumbers.{lending_maps}
use Rattle.rules.specs.Calls.{opens, closes, messages, ticks}
use Rattle.recall.specs.Recall.{Remembers, Forgets}
use Rattle.recall.specs.contracts.fresh as freshly
use Rattle.recall.specs.contracts.«open» as opening
use Rattle.recall.specs.contracts.close as close
use Rattle.recall.specs.contracts.message as message
use Rattle.recall.specs.contracts.tick as tick

module _ {M : Type 1} {𝓤 : Ura M} (𝓛 : Logic 𝓤) (mem : store.Memory → SProp 𝓤) (run : Routine → Fun 𝓤) where
  abbrev 𝓝 : Connectives 𝓤
  𝓝 = connectives 𝓤

  open 𝓝 use {⌜◌⌝, ⊤ₛ}

  -- fresh(log)
  module _ (κs : Lfts 1) (a : Args freshly.signature κs) (r : Res freshly.signature κs) (z : AtExit freshly.ended κs) where
    pub fresh-requires : (freshly.clauses 𝓛 mem run κs a).requires tt ≡ ⊤ₛ
    fresh-requires = refl

    pub fresh-ensures : (freshly.clauses 𝓛 mem run κs a).ensures tt r z ≡ ⌜ Forgets a.0.now r z.0.now ⌝
    fresh-ensures = refl

  -- open(log, conn)
  module _ (κs : Lfts 1) (a : Args opening.signature κs) (r : Res opening.signature κs) (z : AtExit opening.ended κs) where
    pub open-requires : (opening.clauses 𝓛 mem run κs a).requires tt ≡ ⊤ₛ
    open-requires = refl

    pub open-ensures : (opening.clauses 𝓛 mem run κs a).ensures tt r z
        ≡ ⌜ Remembers (opens a.1.0) a.0.now [] r z.0.now [] ⌝
    open-ensures = refl

  -- close(log, conn, out)
  module _ (κs : Lfts 2) (a : Args close.signature κs) (r : Res close.signature κs) (z : AtExit close.ended κs) where
    pub close-requires : (close.clauses 𝓛 mem run κs a).requires tt ≡ ⊤ₛ
    close-requires = refl

    pub close-ensures : (close.clauses 𝓛 mem run κs a).ensures tt r z
        ≡ ⌜ Remembers (closes a.1.0 (length a.1.1.0.now)) a.0.now a.1.1.0.now r z.0.now z.1.1.0.now ⌝
    close-ensures = refl

  -- message(log, conn, l, primary, insertion, out)
  module _ (κs : Lfts 4) (a : Args message.signature κs) (r : Res message.signature κs) (z : AtExit message.ended κs) where
    pub message-requires : (message.clauses 𝓛 mem run κs a).requires tt ≡ ⊤ₛ
    message-requires = refl

    pub message-ensures : (message.clauses 𝓛 mem run κs a).ensures tt r z
        ≡ ⌜ Remembers
        (messages a.1.0 a.1.1.0.now (lending_maps a.1.1.1.0.now a.1.1.1.1.0.now
        (length a.1.1.1.1.1.0.now)))
        a.0.now a.1.1.1.1.1.0.now r z.0.now z.1.1.1.1.1.0.now ⌝
    message-ensures = refl

  -- tick(log, seconds, micros, out)
  module _ (κs : Lfts 2) (a : Args tick.signature κs) (r : Res tick.signature κs) (z : AtExit tick.ended κs) where
    pub tick-requires : (tick.clauses 𝓛 mem run κs a).requires tt ≡ ⊤ₛ
    tick-requires = refl

    pub tick-ensures : (tick.clauses 𝓛 mem run κs a).ensures tt r z
        ≡ ⌜ Remembers (ticks a.1.0 a.1.1.0 (length a.1.1.1.0.now)) a.0.now a.1.1.1.0.now r z.0.now
        z.1.1.1.0.now ⌝
    tick-ensures = refl
