-- What the card with a rolling counter takes of document 01: every call but those that bring the clock to a time. By cases of the call.
use mathlib.Core.Path.{◌≡◌, refl, subst}
use Prim.Native.Nat.{ℕ}
use Rattle.rules.specs.Calls.{Call, opens, closes, messages, ticks, moves, cues}
use Rattle.rules.specs.Follows.Sequences.{Timeless}

abbrev pub NoTime : Call → Type 0
NoTime k = ((seconds micros room : ℕ) → k ≡ ticks seconds micros room → ⊥) × ((until room : ℕ) → k ≡ moves until room → ⊥)

pub timeless-has-none : (k : Call) → Timeless k → NoTime k
timeless-has-none k t = ((λ s u n e. subst Timeless e t), λ u n e. subst Timeless e t)

pub none-is-timeless : (k : Call) → NoTime k → Timeless k
none-is-timeless (opens c) t = tt
none-is-timeless (closes c room) t = tt
none-is-timeless (messages c l loans) t = tt
none-is-timeless (cues l pts seconds micros room) t = tt
none-is-timeless (ticks seconds micros room) t = t.0 seconds micros room refl
none-is-timeless (moves until room) t = t.1 until room refl
