-- A loop in which those that stand so and pass a test leave one by one. Rests on `Going`.
use mathlib.Core.Path.{◌≡◌, refl, sym, ap, ◌∙◌}
use mathlib.Core.Bool.{Bool, false}
use mathlib.Core.List.{List}
use Prim.Native.Nat.{ℕ, suc, ◌<◌}
use native.Mathlib.Omega.{arith}
use lib.ListN.{length}
use Rattle.std.specs.declared.option.Option.{Option}
use Rattle.std.specs.declared.option.Option.TheVariants.{Some, None}
use Rattle.rules.specs.declared.Session.{Session}
use Rattle.rules.specs.declared.Ending.{Ending}
use Rattle.recall_rules.specs.declared.Phase.{Phase}
use Rattle.recall_rules.specs.declared.Phase.TheVariants.{Ended}
use Rattle.recall_rules.specs.declared.Verdict.{Verdict}
use Rattle.recall_rules.specs.Verdicts.{is_waiting, session_of, over, first}
use Rattle.recall_rows.specs.Scans.{place_in}
use Rattle.recall_rows.proofs.Scans.{found, missing}
use Rattle.recall_rules.specs.Work.{Turn, and_then, earlier, waiting_ones}
use Rattle.recall_ends.specs.Does.{all, Does, Room, one_over, waiting_end}
use Rattle.recall_ends.proofs.Stages.{many, one_fewer, next, stage, stage-none, stage-more, waiting-shut}
use Rattle.recall_ends.proofs.Going.{Going, going-none, going-one, going_on, going_end}

module _ (h : Phase → Bool) (shut : (n r : ℕ) → h (Ended n r) ≡ false) (before : Session → Session → Bool) (p : Session → Bool)
    (how : Session → Ending) where
  abbrev work : List Verdict → Turn
  work = stage h shut before p how

  abbrev leads : List Verdict → ℕ
  leads l = next h shut before p how l

  abbrev pub Loop : (m e : List ℕ) (len : ℕ) (k o : List ℕ) (to : ℕ) → Type 0
  Loop m e len k o to = Going work m e len k o to

  pub loop-start : (m e : List ℕ) (len : ℕ) → Loop m e len m e len
  loop-start m e len = going-none work m e len

  module _ {m e : List ℕ} {len : ℕ} {k o : List ℕ} {to : ℕ} (l : Loop m e len k o to) {a : Option ℕ}
      (f : a ≡ place_in (all k) (leads (all k)))
    where
      -- call i leaves next
      module _ {i : ℕ} (more : a ≡ Some i) where
        at : (i ≡ leads (all k)) × (i < length (all k))
        at = found (all k) f more

        below : leads (all k) < length (all k)
        below = omega (arith, at)

        module _ {r : Ending} (by : r ≡ how (session_of (all k) i)) where
          step : work (all k) ≡ and_then (one_over r i (all k)) work
          step =
              stage-more h shut before p how (all k) below
              ∙ ap (λ (j : ℕ). and_then (one_over (how (session_of (all k) j)) j (all k)) work) (sym at.0)
              ∙ ap (λ (q : Ending). and_then (one_over q i (all k)) work) (sym by)

          pub loop-room : Room work len m e → Room (one_over r i) to k o
          loop-room room = going-one work m e len room l (one_over r i) step

          module _ {k' o' : List ℕ} {to' : ℕ} (d : Does (one_over r i) to k o to' k' o') where
            pub loop-fewer : many h shut (all k') < many h shut (all k)
            loop-fewer =
                let z : suc (many h shut (over r i (all k))) ≡ many h shut (all k) =
                ap (λ (j : ℕ). suc (many h shut (over r j (all k)))) at.0
                ∙ one_fewer h shut (first h before p (all k)) (all k) below r in
                omega (arith, z, ap (many h shut) d.holds)

            pub loop-next : Room work len m e → length k' ≡ length k → length o' ≡ length o → Loop m e len k' o' to'
            loop-next room a b = going_on work m e len room l (one_over r i) step d a b

      pub loop-out : Room work len m e → a ≡ None → Does work len m e to k o
      loop-out room last = going_end work m e len l (stage-none h shut before p how (all k) (missing (all k) f last)) room

-- ## The same work, as it is called

module _ (how : Ending) (p : Session → Bool) (l : List Verdict) where
  pub waiting-is : waiting_end how p l ≡ stage is_waiting waiting-shut earlier p (λ s. how) l
  unfolding waiting_end waiting_ones
  waiting-is = refl
