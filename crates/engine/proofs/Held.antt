-- What the types of a call's parameters say, as the toolchain reads them, for the files that cite contracts.
-- Rests on the toolchain's `own`: what a type says of a value and its machine value, and of what a reference to it holds.
use mathlib.Core.Path.{◌≡◌, refl}
use mathlib.Core.Logic.{◌∨₁◌}
use mathlib.Core.List.{List, [], ◌∷◌}
use Prim.Native.Nat.{ℕ, ◌+◌, ◌<◌, ◌^◌}
use lib.ListN.{length, get_or}
use mir.Syntax.{erased, Width, w8, w32}
use mir.Val.{Val, vint, bits}
use base.Fraction.{full_share}
use base.Fml.{Lft, Share, Fml, ftrue, ffalse, feq, flt, fsep, fand, for, fwand, fex, fall, fupd, fat, froom, fdies, flft, fdead}
use base.Fml.{fobs, fauth, fres, fown, fbor, fobor, flent, fshr_bor, finv, fnamed, ftok, fkid, fme, fsent, fhide, fleft}
use contract.Lifetimes.{Lfts}
use denote.Array.{Array}
use denote.Builtin.{u8, u32, unit}
use denote.Memory.{shared_of, each_shared}
use denote.Plain.{UInt}
use denote.RattleType.{RattleType}
use denote.Ref.{Bor, ShrRef}
use denote.Signature.{Signature, types_at}
use denote.Slice.{Room, ShrSlice}
use Rattle.rules.specs.Lists.{All}
use Rattle.rules.specs.Follows.Wires.{Byte}

-- the type of a parameter, by its place
abbrev pub kind : (S : Signature) → Lfts S.lifetimes → ℕ → RattleType
kind S κs k = get_or (types_at S.params κs) k unit

-- what a formula says that is no resource: the toolchain's `shadow`, but here what a borrow holds is read too
abbrev pub Told : Fml → Type 0
Told ftrue = Unit {0}
Told ffalse = ⊥
Told (feq d x y) = x ≡ y
Told (flt m n) = m < n
Told (fsep P Q) = Told P × Told Q
Told (fand P Q) = Told P × Told Q
Told (for P Q) = Told P ∨₁ Told Q
Told (fwand P Q) = Unit {0}
Told (fex d F) = (x : d) × Told (F x)
Told (fall d F) = Unit {0}
Told (fupd P) = Unit {0}
Told (fhide P) = Told P
Told (fat q τ b o v) = Unit {0}
Told (froom τ b o) = Unit {0}
Told (fleft q ω τs b o) = Unit {0}
Told (fdies τ b) = Unit {0}
Told (flft κ q) = Unit {0}
Told (fdead κ) = Unit {0}
Told (fobs γ x) = Unit {0}
Told (fauth γ x) = Unit {0}
Told (fres γ x) = Unit {0}
Told (fown R γ x) = Unit {0}
Told (fbor κ P) = Told P
Told (fobor κ q P) = Told P
Told (flent κ P) = Unit {0}
Told (fshr_bor κ Φ) = (q : Share) × Told (Φ q)
Told (finv P) = Unit {0}
Told (fnamed n P) = Unit {0}
Told (ftok E) = Unit {0}
Told (fkid h a) = Unit {0}
Told (fme h) = Unit {0}
Told (fsent h) = Unit {0}

-- x is a value of the type: a machine value stands for it
abbrev pub Holds : (T : RattleType) → T.Denot → Type 0
Holds T x = (vs : List Val) × Told (T.own_val x vs)

-- each follows from the other
abbrev pub Same : Type 0 → Type 0 → Type 0
Same A B = (A → B) × (B → A)

-- of two parameters
pub both : {A B C D : Type 0} → Same A C → Same B D → Same (A × B) (C × D)
both f g = ((λ h. (f.0 h.0, g.0 h.1)), λ t. (f.1 t.0, g.1 t.1))

pub number-held : (n : ℕ) → Same (Holds u32 n) (n < 4294967296)
number-held n = ((λ h. h.1.1), λ t. (_, (refl, t)))

-- ## What a reference to numbers holds: w is the numbers' width

module _ (w : Width) where
  abbrev Fits : ℕ → Type 0
  Fits n = n < 2 ^ bits w

  -- the elements that a reference shows, one for one
  each-out : (xs : List ℕ) (s b o : ℕ) (κ : Lft) → Told (each_shared xs (shared_of (UInt w)) s b o κ) → All Fits xs
  each-out [] s b o κ h = tt
  each-out (x ∷ xs) s b o κ h = (h.0.1.0.1, each-out xs s b (o + s) κ h.1)

  each_in : (xs : List ℕ) (s b o : ℕ) (κ : Lft) → All Fits xs → Told (each_shared xs (shared_of (UInt w)) s b o κ)
  each_in [] s b o κ t = tt
  each_in (x ∷ xs) s b o κ t = ((vint w x ∷ [], ((refl, t.0), (full_share, tt))), each_in xs s b (o + s) κ t.1)

  -- a &[u_w; n] is n of them; of no reference it matters here what its lifetime is
  array-held : (κ : Lft) (n : ℕ) (x : Bor (List ℕ))
      → Same (Holds (ShrRef erased κ (Array (UInt w) n)) x) ((length x.now ≡ n) × All Fits x.now)
  array-held κ n x = (
    (λ h. (h.1.1.0, each-out x.now _ _ _ κ h.1.1.1)),
    (λ t. (_, (refl, (t.0, each_in x.now _ _ _ κ t.1)))),
  )

  -- a &[u_w] is any of them, as many as memory has room for
  slice-held : (κ : Lft) (x : Bor (List ℕ)) → Same (Holds (ShrSlice erased κ (UInt w)) x) (All Fits x.now × Room (UInt w) (length x.now))
  slice-held κ x = (
    (λ h. (each-out x.now _ _ _ κ h.1.1, h.1.0.1)),
    (λ t. (_, ((refl, t.1), each_in x.now _ _ _ κ t.0))),
  )

-- a &[u32; n]
pub words-held : (κ : Lft) (n : ℕ) (x : Bor (List ℕ))
    → Same (Holds (ShrRef erased κ (Array u32 n)) x) ((length x.now ≡ n) × All (λ y. y < 4294967296) x.now)
words-held = array-held w32

-- a &[u8; 32]
pub name-held : (κ : Lft) (x : Bor (List ℕ)) → Same (Holds (ShrRef erased κ (Array u8 32)) x) ((length x.now ≡ 32) × All Byte x.now)
name-held κ = array-held w8 κ 32

-- the room that a &[u8] has in memory: `Typed` asks for none, so it is of more inputs than there can be
abbrev pub InRoom : List ℕ → Type 0
InRoom l = Room u8 (length l)

pub bytes-held : (κ : Lft) (x : Bor (List ℕ)) → Same (Holds (ShrSlice erased κ u8) x) (All Byte x.now × InRoom x.now)
bytes-held = slice-held w8
