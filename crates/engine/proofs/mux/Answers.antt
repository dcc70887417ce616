-- "5 with none", or the value of the first of the started: the one on air (`air-none`, `air-first`).
use mathlib.Core.Path.{◌≡◌, refl, ◌∙◌}
use mathlib.Core.List.{List, [], ◌∷◌}
use Prim.Native.Nat.{◌<◌}
use native.Mathlib.Omega.{arith}
use lib.ListN.{length, get_or}
use Rattle.rules.specs.declared.Session.{Session}
use Rattle.rules.specs.State.{empty}
use Rattle.rules.specs.Answers.{air_mux}
use Rattle.memory.specs.declared.Which.TheVariants.{Started}
use Rattle.memory.specs.Memory.{sessions}
use Rattle.memory.proofs.Laws.{quiet_none, quiet-some}
use Rattle.engine.proofs.mux.Goals as goal

air-none : (l : List Session) → length l ≡ 0 → 5 ≡ air_mux l
unfolding air_mux
air-none [] h = refl
air-none (x ∷ l) h = absurd (omega arith)

air-first : (l : List Session) → 0 < length l → (get_or l 0 empty).mux ≡ air_mux l
unfolding air_mux
air-first [] h = absurd (omega arith)
air-first (x ∷ l) h = refl

pub returns-then-is_quiet : goal.returns-then-is_quiet
returns-then-is_quiet c =
    let m = c.args.m.now in
    air-none (sessions Started m) (quiet_none c.is_quiet.ensures c.if-is_quiet.true)

pub mux_at-requires : goal.mux_at-requires
mux_at-requires c =
    let h : 0 < length (sessions Started c.args.m.now) = quiet-some c.is_quiet.ensures c.if-is_quiet.false in
    record {
      form = c.requires.whole.words;
      at_in_bounds = h;
    }

pub returns : goal.returns
returns c =
    let m = c.args.m.now in
    c.mux_at.ensures ∙ air-first (sessions Started m) (quiet-some c.is_quiet.ensures c.if-is_quiet.false)
