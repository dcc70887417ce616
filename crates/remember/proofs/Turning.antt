-- The program's records, one behind the other: whatever those from here on give, it is what they give from the beginning.
-- Rests on `Reads` and `Answers`, what is promised of one record.
use mathlib.Core.Path.{◌≡◌, sym, subst, ap, ◌∙◌}
use mathlib.Core.Bool.{true, false}
use mathlib.Core.List.{List, [], ◌∷◌}
use Prim.Native.Nat.{ℕ, suc, ◌-◌, ◌≤◌, ◌<◌}
use native.Mathlib.Omega.{arith}
use lib.ListN.{length, take, replicate}
use lib.Seq.{length-take-le}
use Rattle.recall_log.specs.Log.{log_length}
use Rattle.recall_log.specs.Kept.{cleared}
use Rattle.recall.specs.Recall.{recall_fresh}
use Rattle.recall.proofs.Recalls.{fresh-log}
use Rattle.remember.specs.declared.Read.{Read}
use Rattle.remember.specs.declared.Stop.{Stop}
use Rattle.remember.specs.declared.Stop.TheVariants.{Over, Unwritten, Counted}
use Rattle.standard_streams.specs.declared.Written.{Written}
use Rattle.remember.specs.Said.{ends_with}
use Rattle.remember.specs.Remembered.{fresh_log, Reads, Answers, Fed, over, last, failed, counted, goes, Turns, most, Stopped}

-- the program's first log
pub fresh-is : (l : List ℕ) → length l ≡ log_length → (recall_fresh l).log ≡ fresh_log
unfolding fresh_log cleared
fresh-is l h = fresh-log l h ∙ ap (λ n. replicate n 0) h

-- from the log i on, with `left` turns to come from the log g
abbrev pub Turning : (i : List ℕ) (left : ℕ) (g : List ℕ) → Type 0
Turning i left g = (h : Stop) → Turns left h g → Stopped i h

pub turning-none : (g : List ℕ) → Turning g most g
turning-none g h t = t

pub turning-counted : {i : List ℕ} {left : ℕ} {g : List ℕ} → Turning i left g → left ≡ 0 → Stopped i Counted
turning-counted {i} {left} {g} t e =
    t Counted (subst (λ n. Turns n Counted g) (sym e) (record { reads = []; output = []; fed = counted }))

-- one record, in the buffer l
module _ {i : List ℕ} {left : ℕ} {g : List ℕ} (t : Turning i left g) (some : 0 < left) {r : Read} {l : List ℕ} (a : Reads r l)
    (long : length l ≡ 4098) where
  one : (h : Stop) → Turns (suc (left - 1)) h g → Stopped i h
  one h x =
      let same : suc (left - 1) ≡ left = omega arith in
      t h (subst (λ k. Turns k h g) same x)

  pub turning-over : r.len < 2 → Stopped i (Over r.last)
  turning-over h =
      one (Over r.last)
      (record {
        reads = take r.last.count l ∷ [];
        output = [];
        fed = over (a.ended h) (length-take-le r.last.count l (omega (arith, a.within)));
      })

  module _ (two : 2 ≤ r.len) where
    pub record-long : length (take r.len l) ≡ r.len
    record-long = length-take-le r.len l (omega (arith, a.within, a.came two))

    module _ {w : Written} {m : List ℕ} (b : Answers g (take r.len l) w m) where
      pub turning-failed : w.whole ≡ false → Stopped i (Unwritten w)
      turning-failed e =
          one (Unwritten w) (record { reads = take r.len l ∷ []; output = _; fed = failed (a.whole two) e b.handed })

      pub turning-last : ends_with (take r.len l) ≡ true → Stopped i (Over r.last)
      turning-last e =
          one (Over r.last)
          (record { reads = take r.len l ∷ []; output = _; fed = last (a.whole two) e (record-long ∙ a.came two) })

      pub turning-more : ends_with (take r.len l) ≡ false → Turning i (left - 1) m
      turning-more e h x =
          one h
          (record {
            reads = take r.len l ∷ x.reads;
            output = _;
            fed = goes (a.whole two) (omega (arith, record-long)) e
                (subst (λ k. Fed (left - 1) h k x.reads x.output) b.log x.fed);
          })
