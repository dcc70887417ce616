-- The fresh splicer: no session, all connections closed, and the name that was kept.
use mathlib.Core.Path.{◌≡◌, sym, ap, subst, ◌∙◌}
use mathlib.Core.Bool.{Bool, true, false}
use mathlib.Core.List.{List, []}
use Prim.Native.Nat.{ℕ}
use lib.ListN.{length}
use Rattle.rules.specs.declared.Refusal.TheVariants.{BadName}
use Rattle.rules.specs.Lists.{All}
use Rattle.rules.specs.Follows.Wires.{Byte}
use Rattle.rules.specs.Bytes.{has_zero, name_in}
use Rattle.rules.specs.Records.{output}
use Rattle.rules.specs.State.{Splicer}
use Rattle.rules.specs.Calls.{named, fresh}
use Rattle.rules.specs.HouseNumbers.{written_by, buffer_after}
use Rattle.rules.specs.Follows.Sound.{Reached}
use Rattle.rules.proofs.Written.{written_none}
use Rattle.rules.proofs.Sound.{reached-fresh}
use Rattle.memory.specs.Memory.{Memory, Now, nothing_shown, shifted, Named, shown}
use Rattle.std.specs.Prelude.{Ok, Err}
use Rattle.answers.specs.Gives.{unmoved}
use Rattle.engine.specs.Lent.{Answer, answer_of, Answers}

begun : (m b n : List ℕ) → Now m nothing_shown → Named b n → shown m b ≡ named n
unfolding named
begun m b n x y = λ i. record {
  name = y.name i;
  clock = (x.is i).clock;
  primary = (x.is i).primary;
  links = (x.is i).links;
  hardware =
      y.kept i;
  queue = (x.is i).queue;
}

-- m and b: what is left in the words and the bytes
module _ (name : List ℕ) {m b : List ℕ} (long : length name ≡ 32) (bytes : All Byte name) (none : Now m nothing_shown) where
  -- n is the name that is kept
  fresh-as : (n : List ℕ) (a : Answer) → Named b n → (fresh name).splicer ≡ named n → (fresh name).accepted ≡ false
      → a ≡ answer_of (fresh name).answer (fresh name).moved → [] ≡ buffer_after (fresh name).answer []
      → Answers (fresh name) 0 [] a m b []
  fresh-as n a kept e g f o =
      let v = begun m b n none kept ∙ sym e in
      record {
        lent = record {
          whole = record { words = none.form; bytes = kept.stored };
          reached = subst (λ (s : Splicer). Reached s) (sym v) (reached-fresh name long bytes);
        };
        splicer = v;
        ring = ap (λ (s : Memory). s.ring_end) none.is ∙ sym (ap (λ (y : Bool). shifted y 0) g);
        answer = f;
        buffer = o;
      }

  pub fresh-good : Named b (name_in name) → has_zero name ≡ true → Answers (fresh name) 0 [] (Ok (unmoved 0)) m b []
  unfolding fresh answer_of buffer_after written_by output
  fresh-good kept z = fresh-as (name_in name) (Ok (unmoved 0)) kept (rw z) (rw z) (rw z) (rw z (sym (written_none [] 0)))

  pub fresh-bad : Named b [] → has_zero name ≡ false → Answers (fresh name) 0 [] (Err BadName) m b []
  unfolding fresh answer_of buffer_after written_by
  fresh-bad kept z = fresh-as [] (Err BadName) kept (rw z) (rw z) (rw z) (rw z (sym (written_none [] 0)))
