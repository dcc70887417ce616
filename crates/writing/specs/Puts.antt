-- What a writer of a record promises. Assumes nothing.
use Rattle.std.specs.Prelude.{◌≡◌, List, ℕ, ◌≤◌, length}
use Rattle.rules.specs.Bytes.{written}
use Rattle.rules.specs.Records.{Record, record_bytes}

-- l stands at the start of the buffer that held e: r bytes, no more than it has
pub record Wrote (l e : List ℕ) (r : ℕ) (o : List ℕ) : Type 0 where
  pub count : r ≡ length l
  pub fits : r ≤ length e
  pub bytes : o ≡ written e 0 l

-- a record stands there
abbrev pub Puts : Record → (e : List ℕ) → ℕ → (o : List ℕ) → Type 0
Puts x e r o = Wrote (record_bytes x) e r o
