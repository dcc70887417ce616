-- Any two results that a promise allows are equal, and a refusal leaves everything as it was.
-- Rests on engine's answers-same and refused-unchanged.
use mathlib.Core.Path.{◌≡◌, refl, sym, ap, ◌∙◌}
use mathlib.Core.List.{List}
use Prim.Native.Nat.{ℕ, ◌<◌}
use native.Mathlib.Omega.{arith}
use lib.ListN.{get_or}
use Rattle.rules.specs.HouseNumbers.{Called}
use Rattle.rules.specs.Calls.{Call, call}
use Rattle.memory.specs.Memory.{see, shown}
use Rattle.std.specs.Prelude.{Ok, Err}
use Rattle.engine.specs.Lent.{Lent, Answer, answer_of}
use Rattle.engine.proofs.Laws.{answers-same}
use Rattle.engine.proofs.Laws as engine
use Rattle.door.specs.Door.{reply_of, Replies}

-- the reply is that of document 01's answer
pub reply-is : {c : Called} {at : ℕ} {e r m b o : List ℕ} → Replies c at e r m b o → r ≡ reply_of (answer_of c.answer c.moved)
reply-is x = x.reply ∙ ap reply_of x.answers.answer

-- "any two results it allows are proved equal"
pub replies-same : (c : Called) (at : ℕ) (e r m b o s n d p : List ℕ) → Replies c at e r m b o → Replies c at e s n d p
    → (r ≡ s) × (m ≡ n) × (b ≡ d) × (o ≡ p)
replies-same c at e r m b o s n d p x y =
    let k = answers-same c at e x.answer y.answer m b o n d p x.answers y.answers in
    (x.reply ∙ ap reply_of k.0 ∙ sym y.reply, k.1, k.2, k.3)

-- "A refusal returns its number, writes nothing, consumes nothing and changes no state."
pub refused-unchanged : (k : Call) (m b e r v c o : List ℕ) → Lent m b → Replies (call k (shown m b)) (see m).ring_end e r v c o
    → 0 < get_or r 0 0
    → (v ≡ m) × (c ≡ b) × (o ≡ e)
unfolding reply_of
refused-unchanged k m b e r v c o l x f = by x.answer refl
  where
    by : (a : Answer) → x.answer ≡ a → (v ≡ m) × (c ≡ b) × (o ≡ e)
    by (Err n) y = engine.refused-unchanged k n m b e x.answer v c o l x.answers y
    by (Ok did) y =
        let t : get_or r 0 0 ≡ 0 = ap (λ z. get_or z 0 0) (x.reply ∙ ap reply_of y) in
        absurd (omega arith)
