-- A difference below the flag is an AccessType below the sum (`less-of-sum`): a sum might pass 64 bits.
use mathlib.Core.Path.{◌≡◌, refl, sym, ◌∙◌}
use mathlib.Core.Bool.{Bool, true, false}
use Prim.Native.Nat.{ℕ, ◌+◌, ◌-◌, ◌≤◌}
use native.Mathlib.Omega.{arith}
use lib.Dec.{ltb}
use borrow.Author.Tests.{ltb-true, ltb-false, lt-ltb, le-ltb}
use Rattle.checks.proofs.outranks.Goals as goal

less-of-sum : (a b o : ℕ) → b ≤ a → ltb (a - b) o ≡ ltb a (b + o)
less-of-sum a b o h = go (ltb a (b + o)) refl
  where
    go : (v : Bool) → ltb a (b + o) ≡ v → ltb (a - b) o ≡ v
    go true e = lt-ltb (a - b) o (omega (arith, ltb-true a (b + o) e))
    go false e = le-ltb (a - b) o (omega (arith, ltb-false a (b + o) e))

pub returns-then-old-new : goal.returns-then-old-new
returns-then-old-new c =
    let s = c.args in
    let h = c.if-old-new.true in
    lt-ltb s.old.access s.new.access h ∙ sym (lt-ltb s.old.access (s.new.access + s.new.overrides) (omega (arith, h)))

pub returns-else-old-new : goal.returns-else-old-new
returns-else-old-new c =
    let s = c.args in
    less-of-sum s.old.access s.new.access s.new.overrides (omega (arith, c.if-old-new.false))
