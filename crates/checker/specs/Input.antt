-- 02, CR 14: what the program finds in the bytes l that it read, 65,536 at most, and one more that it tried.
use Rattle.std.specs.Prelude.{◌≡◌, Bool, false, cond, List, ℕ, ◌≤◌, ◌<◌, ltb, length, Option, Some, None}
use Rattle.recording.specs.declared.Finding.{Finding}
use Rattle.recording.specs.declared.Finding.TheVariants.{Longer}
use Rattle.recording.specs.Recording.{longest, checked}
use Rattle.checker.specs.declared.stdio.Came.{Came}
use Rattle.checker.specs.declared.Judged.{Judged}

-- t: there was one more
abbrev pub found_in : Bool → List ℕ → Option Finding
found_in t l = cond t (Some Longer) (checked l)

-- whether the byte that was tried came
abbrev pub is_longer : Option Came → Bool
is_longer None = false
is_longer (Some c) = ltb 0 c.count

-- a byte more is tried, but behind a short read
abbrev pub Asks : ℕ → Option Came → Type 0
Asks n None = n < longest
Asks n (Some c) = Unit {0}

-- what the program promises of the bytes that came first
pub record Judges (r : Judged) : Type 0 where
  pub bytes : List ℕ
  pub count : length bytes ≡ r.read.count
  pub within : length bytes ≤ longest
  pub asks : Asks r.read.count r.behind
  pub finding : r.finding ≡ found_in (is_longer r.behind) bytes
