-- Alive: the one on air decides. Rests on what is told by one record.
use mathlib.Core.Path.{◌≡◌, refl, sym, ap, subst}
use mathlib.Core.List.{List}
use Prim.Native.Nat.{ℕ, ◌≤◌, ◌<◌}
use native.Mathlib.Omega.{arith}
use lib.ListN.{length}
use borrow.Author.Tests.{lt-ltb, le-ltb}
use Rattle.rules.specs.declared.Ninths.{Ninths}
use Rattle.rules.specs.declared.Micros.{Micros}
use Rattle.rules.specs.Units.{to_micros}
use Rattle.rules.specs.Request.{nobody}
use Rattle.rules.specs.Records.{AliveResponse}
use Rattle.recall_rules.specs.declared.Verdict.{Verdict}
use Rattle.recall_rules.specs.Verdicts.{session_of}
use Rattle.recall_rules.specs.Work.{on_air, air_state, air_id}
use Rattle.writing.specs.Puts.{Puts}
use Rattle.recall_ends.proofs.Laws.{tells_first}
use Rattle.recall_answers.specs.Replies.{Says}

-- i: the call on air, or how many there are
module _ (l : List Verdict) (i : ℕ) (f : i ≡ on_air l) where
  pub air-some : i < length l → (air_state l ≡ 2) × (air_id l ≡ (session_of l i).id)
  unfolding air_state air_id
  air-some h =
      let t = lt-ltb (on_air l) (length l) (omega (arith, h, f)) in
      (rw t refl, rw t (ap (λ (j : ℕ). (session_of l j).id) (sym f)))

  pub air-none : length l ≤ i → (air_state l ≡ 1) × (air_id l ≡ nobody)
  unfolding air_state air_id
  air-none h = let t = le-ltb (on_air l) (length l) (omega (arith, h, f)) in (rw t refl, rw t refl)

-- x, i: the State and the SessionID; t: the clock's time
pub alive-says : (l : List Verdict) (c : ℕ) (n : Ninths) {e o : List ℕ} {x i len : ℕ} {t : Micros} → (air_state l ≡ x) × (air_id l ≡ i) →
    t ≡ to_micros n → Puts (AliveResponse c 100 x i t.0) e len o →
    Says (AliveResponse c 100 (air_state l) (air_id l) (to_micros n).0) e len o
alive-says l c n {e} {o} {x} {i} {len} a q h =
    rw (a.0, a.1) (subst (λ (y : Micros). Says (AliveResponse c 100 x i y.0) e len o) q (tells_first h))
