-- What the answer to a Splice_Request promises of the lent words and of the buffer.
use Rattle.std.specs.Prelude.{◌≡◌, cond, List, [], ◌∷◌, ◌++◌, ℕ, ◌≤◌, Option, Some, None}
use Rattle.rules.specs.declared.Request.{Request}
use Rattle.rules.specs.declared.Session.{Session}
use Rattle.rules.specs.Splicing.{accepts}
use Rattle.recall_rules.specs.declared.Phase.TheVariants.{Waits}
use Rattle.recall_rules.specs.declared.Verdict.{Verdict}
use Rattle.recall_rules.specs.Verdicts.{verdict}
use Rattle.recall_rules.specs.Work.{Turn, writes, and_then, evicted, requested, waits, later, answer_splice}
use Rattle.recall_ends.specs.Does.{all, Tells, Does}
use Rattle.recall_requests.specs.declared.Given.{Given}

-- f, but for the new verdict: what is evicted, "written before the 100"
unfoldable pub admitted : Session → List Verdict → Turn
admitted s l = and_then (evicted s.start.0 l) (writes (accepts s ∷ []))

-- the verdicts l, and behind them that of a session that was accepted
abbrev pub joined : Option Session → List Verdict → List Verdict
joined None l = l
joined (Some s) l = l ++ (verdict Waits s ∷ [])

-- the session that is asked for, if it is accepted
abbrev pub accepted_of : (clock c : ℕ) → Request → List Verdict → Option Session
accepted_of clock c r l = cond (answer_splice clock c r l).accepted (Some (requested c r l)) None

-- the turn of the answer
abbrev pub spliced : (clock c : ℕ) → Request → List Verdict → Turn
spliced clock c r l = (answer_splice clock c r l).turn

-- of the words m and the buffer e: the session that is asked for, that session if it was accepted, and 02's number; the words k and it are
-- the verdicts after the answer, whose records stand in the buffer
pub record Splices (clock c : ℕ) (r : Request) (m e : List ℕ) (g : Given) (k o : List ℕ) : Type 0 where
  pub new : g.new ≡ requested c r (all m)
  pub accepted : g.accepted ≡ accepted_of clock c r (all m)
  pub holds : joined g.accepted (all k) ≡ (spliced clock c r (all m)).verdicts
  pub tells : Tells e 0 (spliced clock c r (all m)).written g.len o
  pub moved : g.moved ≡ (answer_splice clock c r (all m)).moved

-- "20 waiting": no connection has more
abbrev pub Few : (m : List ℕ) → Type 0
Few m = (c : ℕ) → waits c (all m) ≤ 20

-- f was done, but for the new verdict
pub record Admits (new : Session) (m e : List ℕ) (g : Given) (k o : List ℕ) : Type 0 where
  pub does : Does (admitted new) 0 m e g.len k o
  pub moved : g.moved ≡ later new (all m)
