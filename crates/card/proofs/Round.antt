-- One turn: what is read goes behind the bytes kept, and what is not played of both is kept.
-- Rests on the laws of the input buffer, proofs/Input.
use mathlib.Core.Path.{◌≡◌, refl, sym, subst, ap, ◌∙◌}
use mathlib.Core.Bool.{Bool, true, false, ◌&&◌, ◌||◌}
use mathlib.Core.List.{List}
use Prim.Native.Nat.{ℕ, ◌+◌, ◌-◌, ◌≤◌, ◌<◌}
use native.Mathlib.Omega.{arith}
use lib.Dec.{ltb}
use lib.ListN.{length, take, drop}
use lib.Seq.{length-take-le}
use borrow.Author.Tests.{lt-ltb, le-ltb, ltb-true, ltb-false}
use Rattle.rules.specs.Bytes.{part, largest_size}
use Rattle.rules.specs.State.{Splicer}
use Rattle.rules.specs.Card.{message_end}
use Rattle.rules.proofs.Tests.{and_both}
use Rattle.feed.specs.declared.Played.{Played}
use Rattle.feed.proofs.Runs.{cut_short}
use Rattle.standard_streams.specs.declared.Written.{Written}
use Rattle.card.specs.Ran.{Ran, moved, again, Turned}
use Rattle.card.proofs.Input.{read_behind, part_length, moved_front}

-- ## Whether there is one more

module _ (m : Bool) (n used : ℕ) where
  all : {t : Bool} → m ≡ t → again m n used ≡ t && (ltb 0 n || ltb 0 used)
  all f = ap (λ x. x && (ltb 0 n || ltb 0 used)) f

  pub again-read : m ≡ true → 0 < n → ltb 0 n ≡ again m n used
  again-read f h = lt-ltb 0 n h ∙ sym (all f ∙ ap (λ x. x || ltb 0 used) (lt-ltb 0 n h))

  pub again-used : m ≡ true → n ≤ 0 → ltb 0 used ≡ again m n used
  again-used f h = sym (all f ∙ ap (λ x. x || ltb 0 used) (le-ltb 0 n h))

  pub again-not : m ≡ false → m ≡ again m n used
  again-not f = f ∙ sym (all f)

-- ## What it hands on

-- n bytes are read behind the first bytes of e, which gives xs; ys is what is kept of it
module _ {s : Splicer} (have n : ℕ) (e xs : List ℕ) {ys : List ℕ} {p : Played} {m b o : List ℕ} {t : Bool} (w : Written)
    (fits : have + n ≤ length xs) (front : take have xs ≡ take have e) (ran : Ran s (take (have + n) xs) p m b o)
    (kept : ys ≡ moved p.used (have + n) xs) (long : length ys ≡ length xs) (more : t ≡ again p.more n p.used) where
  -- what is played makes room, and what is not played is shorter than the longest record
  room : message_end largest_size ≤ length xs → t ≡ true → have + n - p.used < length ys
  room wide e = go (ltb 0 p.used) refl
    where
      on : p.more ≡ true
      on = (and_both p.more _ (sym more ∙ e)).0

      go : (b : Bool) → ltb 0 p.used ≡ b → have + n - p.used < length ys
      go true f = omega (arith, ltb-true 0 p.used f)
      go false f =
          let none = ltb-false 0 p.used f in
          omega (arith, cut_short (take (have + n) xs) (ran.stuck (omega arith) on), length-take-le (have + n) xs fits)

  pub turned : message_end largest_size ≤ length xs
      → Turned s (take have e) (record { have = have + n - p.used; more = t; written = w }) m b ys o
  turned wide =
      let bytes = read_behind have n e xs front in
      record {
        piece = part have n xs;
        played = p;
        ran = subst (λ l. Ran s l p m b o) bytes ran;
        within = omega arith;
        free = room wide;
        left = moved_front p.used (have + n) xs ys fits kept ∙ ap (drop p.used) bytes;
        more = more ∙ ap (λ k. again p.more k p.used) (sym (part_length have n xs fits));
      }
