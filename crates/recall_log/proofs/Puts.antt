-- What the stores of a record leave is the appended log.
-- Rests on rules' laws of what is written directly behind what was written.
use mathlib.Core.Path.{◌≡◌, refl, sym, ap, ◌∙◌}
use mathlib.Core.List.{List, [], ◌∷◌, ◌++◌}
use Prim.Native.Nat.{ℕ, ◌+◌, ◌≤◌, ◌<◌}
use native.Mathlib.Omega.{arith}
use lib.Dec.{ltb}
use lib.ListN.{length, set, length-set}
use borrow.Author.Tests.{lt-ltb, le-ltb}
use Rattle.rules.specs.Lists.{put}
use Rattle.rules.specs.Bytes.{written}
use Rattle.rules.specs.Calls.{Call}
use Rattle.rules.proofs.Written.{written_none, length-written, written-set, written-more}
use Rattle.recall_log.specs.Log.{taken, longest_record}
use Rattle.recall_log.specs.Kept.{marked, zero_behind, appended, Behind}

pub two-set : (e : List ℕ) (at a b : ℕ) → at + 2 ≤ length e → set (set e at a) (at + 1) b ≡ written e at (a ∷ b ∷ [])
two-set e at a b h =
    written-set (set e at a) (at + 1) b (omega (arith, length-set e at a))
    ∙ ap (λ x. written x (at + 1) (b ∷ [])) (written-set e at a (omega arith))
    ∙ written-more e at (a ∷ []) (b ∷ []) (at + 1) (omega arith) refl

pub zero-set : (e : List ℕ) (end : ℕ) → end < length e → set e end 0 ≡ written e end (zero_behind end e)
zero-set e end h = written-set e end 0 h ∙ ap (λ b. written e end (put b 0 [])) (sym (lt-ltb end (length e) h))

pub zero-none : (e : List ℕ) (end : ℕ) → length e ≤ end → e ≡ written e end (zero_behind end e)
zero-none e end h = sym (ap (λ b. written e end (put b 0 [])) (le-ltb end (length e) h) ∙ written_none e end)

-- e: the log before; o: with the record; p: with the zero behind it
pub record-put : (k : Call) (e o p : List ℕ) (at end : ℕ) → Behind e at → length (marked k) ≤ longest_record → end ≡ at + length (marked k)
    → o ≡ written e at (marked k) → p ≡ written o end (zero_behind end o) → p ≡ appended k e
unfolding appended
record-put k e o p at end b h f g q =
    let m = marked k in
    let n : length o ≡ length e = ap length g ∙ length-written e at m (omega (arith, b.room)) in
    q
    ∙ ap (λ x. written o end (put (ltb end x) 0 [])) n
    ∙ ap (λ x. written x end (zero_behind end e)) g
    ∙ written-more e at m (zero_behind end e) end (omega (arith, b.room)) f
    ∙ ap (λ x. written e at (m ++ zero_behind x e)) f
    ∙ ap (λ x. written e x (m ++ zero_behind (x + length m) e)) b.place

-- a mark and a byte, and the zero behind them
pub pair-put : (a b : ℕ) (e o p : List ℕ) (at : ℕ) → at + 2 ≤ length e → o ≡ written e at (a ∷ b ∷ [])
    → p ≡ written o (at + 2) (zero_behind (at + 2) o) → p ≡ written e at (a ∷ b ∷ zero_behind (at + 2) e)
pair-put a b e o p at h f g =
    let m = a ∷ b ∷ [] in
    g
    ∙ ap (λ x. written o (at + 2) (put (ltb (at + 2) x) 0 [])) (ap length f ∙ length-written e at m (omega arith))
    ∙ ap (λ x. written x (at + 2) (zero_behind (at + 2) e)) f
    ∙ written-more e at m (zero_behind (at + 2) e) (at + 2) (omega arith) refl

pub pair-appended : (k : Call) (e : List ℕ) {a b at : ℕ} → Behind e at → marked k ≡ a ∷ b ∷ []
    → written e at (a ∷ b ∷ zero_behind (at + 2) e) ≡ appended k e
unfolding appended
pair-appended k e {a} {b} f g =
    ap (λ x. written e x (a ∷ b ∷ zero_behind (x + 2) e)) f.place
    ∙ ap (λ x. written e (taken e) (x ++ zero_behind (taken e + length x) e)) (sym g)
