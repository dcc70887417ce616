-- A start, and what time on air and a tick rely on.
use Rattle.std.specs.Prelude.{List, [], ◌∷◌, ℕ, ◌+◌, ◌<◌, length, set}
use Rattle.rules.specs.declared.Session.{Session}
use Rattle.rules.specs.State.{Queue}
use Rattle.rules.specs.Instants.{began}
use Rattle.rules.specs.Follows.Sound.{Holding}
use Rattle.recall_rules.specs.declared.Phase.TheVariants.{Started}
use Rattle.recall_rules.specs.declared.Verdict.{Verdict}
use Rattle.recall_rules.specs.Verdicts.{verdict, session_of, Shows}
use Rattle.recall_rules.specs.Work.{Turn, writes, on_air}

-- s goes on air, as call i
abbrev pub begins : ℕ → Session → List Verdict → Turn
begins i s l = writes (began s ∷ []) (set l i (verdict Started s))

-- with d more, the time on air does not pass 64 bits
abbrev pub Lasting : ℕ → List Verdict → Type 0
Lasting d l = on_air l < length l → (session_of l (on_air l)).played.0 + d < 18446744073709551616

-- the verdicts show what is held at a time: so they do from fresh and the calls since
pub record Keeps (at : ℕ) (l : List Verdict) : Type 0 where
  pub queue : Queue
  pub shows : Shows l queue
  pub holding : Holding at queue
