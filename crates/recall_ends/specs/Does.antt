-- What a piece of work on the lent words promises.
use Rattle.std.specs.Prelude.{◌≡◌, Bool, cond, List, [], ◌∷◌, ℕ, ◌+◌, ◌≤◌, ◌<◌, leb, length}
use Rattle.rules.specs.declared.Session.{Session}
use Rattle.rules.specs.declared.Ending.{Ending}
use Rattle.rules.specs.declared.Ending.TheVariants.{Complete, Failed, Response}
use Rattle.rules.specs.Bytes.{written}
use Rattle.rules.specs.Records.{Record, output}
use Rattle.rules.specs.Ends.{ended}
use Rattle.recall_rules.specs.declared.Verdict.{Verdict}
use Rattle.recall_rules.specs.Verdicts.{session_of, over}
pub use Rattle.recall_rows.specs.Rows.{all}
use Rattle.recall_rules.specs.Work.{Turn, writes, and_then, dismissed, on_air, as_was, endings, started_ones, waiting_ones}

-- an end that is a SpliceComplete
abbrev pub Completing : Ending → Type 0
Completing (Complete r) = Unit {0}
Completing Failed = Unit {0}
Completing (Response r) = ⊥

-- of the buffer e, written up to len: the records stand behind what was written, and it is written up to `to`
pub record Tells (e : List ℕ) (len : ℕ) (records : List Record) (to : ℕ) (o : List ℕ) : Type 0 where
  pub count : to ≡ len + length (output records)
  pub bytes : o ≡ written e len (output records)

-- the words k hold the turn's verdicts, and its records stand behind what was written
pub record Turns (e : List ℕ) (len : ℕ) (t : Turn) (k : List ℕ) (to : ℕ) (o : List ℕ) : Type 0 where
  pub holds : all k ≡ t.verdicts
  pub tells : Tells e len t.written to o

-- the work was done on the verdicts of the words m, and on the buffer e, written up to len
abbrev pub Does : (List Verdict → Turn) → ℕ → (m e : List ℕ) → ℕ → (k o : List ℕ) → Type 0
Does work len m e to k o = Turns e len (work (all m)) k to o

-- the records of the work have room behind what was written
abbrev pub Room : (List Verdict → Turn) → ℕ → (m e : List ℕ) → Type 0
Room work len m e = len + length (output (work (all m)).written) ≤ length e

-- call i ends so
abbrev pub one_over : Ending → ℕ → List Verdict → Turn
one_over how i l = writes (ended how (session_of l i) ∷ []) (over how i l)

-- call i ends so, and then those that follow it, with the result r
abbrev pub chain_over : Ending → ℕ → ℕ → List Verdict → Turn
chain_over how r i l = and_then (one_over how i l) (dismissed r (session_of l i).conn (session_of l i).id)

-- ## Those that leave one by one

-- the AccessType of the one on air, if any is
abbrev pub Top : List Verdict → ℕ → Type 0
Top l r = on_air l < length l → r ≡ (session_of l (on_air l)).access

-- on air is who has that AccessType
abbrev pub by_access : ℕ → (air cover : Ending) → Session → Ending
by_access top air cover s = cond (leb top s.access) air cover

-- the started ones that pass p end, each by what it was
unfoldable pub started_end : (air cover : Ending) → (Session → Bool) → List Verdict → Turn
started_end air cover p l =
    let how = as_was air cover l in
    writes (endings how (started_ones p how l)) (started_ones p how l).left

-- the waiting ones that pass p end so
unfoldable pub waiting_end : Ending → (Session → Bool) → List Verdict → Turn
waiting_end e p l = writes (endings (λ s. e) (waiting_ones p e l)) (waiting_ones p e l).left
