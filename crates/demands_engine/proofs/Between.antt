-- Two calls in a row that bring the clock to a time, and the second alone. Rests on demands' law of the definitions.
use mathlib.Core.Path.{◌≡◌, sym, ap, ap₂, ◌∙◌}
use mathlib.Core.List.{List, ◌++◌}
use Prim.Native.Nat.{ℕ, ◌≤◌}
use lib.ListN.{length}
use Rattle.rules.specs.State.{Splicer}
use Rattle.rules.specs.HouseNumbers.{Called, written_by}
use Rattle.demands.specs.Told.{number_of}
use Rattle.demands.proofs.Between.{Brings, brings-only, alone-good, together-state, together-bytes, later-good}
use Rattle.memory.specs.Memory.{see, shifted}
use Rattle.memory.proofs.Laws as lent
use Rattle.engine.specs.Lent.{Answer}
use Rattle.engine.specs.Lent.{Answers}
use Rattle.demands_engine.specs.Trace.{Memory, shown, Result, Promises, number_in, bytes_in, number, bytes_of}
use Rattle.demands_engine.proofs.Steps.{bytes_read, number_read, memory-same}

-- what an allowed result says
number-of : {c : Called} {at : ℕ} {e : List ℕ} {r : Answer} {m b o : List ℕ} → Answers c at e r m b o → number_in r ≡ number_of c.answer
number-of {c} p = ap number_in p.answer ∙ number_read c.answer c.moved

bytes-of : {c : Called} {at : ℕ} {e : List ℕ} {r : Answer} {m b o : List ℕ} → Answers c at e r m b o → bytes_in r o ≡ written_by c.answer
bytes-of {c} {at} {e} p = rw (p.answer, p.buffer) (bytes_read c.answer c.moved e)

-- one that is good alone, and not earlier, is good behind another that is good
pub stays-good : (mid until : ℕ) (f g : ℕ → Splicer → Called) (m : Memory) (e o : List ℕ) → Brings mid (f (length e))
    → Brings until (g (length o)) → (one two alone : Result) → Promises f m e one → Promises g one.memory o two → Promises g m o alone
    → number one ≡ 0 → number alone ≡ 0 → mid ≤ until → number two ≡ 0
stays-good mid until f g m e o a b one two alone p q r z y le =
    number-of q ∙ ap (λ (x : Splicer). number_of (g (length o) x).answer) p.splicer
    ∙ later-good mid until (f (length e)) (g (length o)) a b (shown m) (sym (number-of p) ∙ z) (sym (number-of r) ∙ y) le

-- one and two, lent the buffers e and o, one after the other; alone: the second from the same memory as the first
module _ (mid until : ℕ) (f g : ℕ → Splicer → Called) (m : Memory) (e o : List ℕ) (a : Brings mid (f (length e)))
    (b : Brings until (g (length o))) (one two alone : Result) (p : Promises f m e one) (q : Promises g one.memory o two)
    (r : Promises g m o alone) (z : number one ≡ 0) (y : number two ≡ 0) where
  abbrev s : Splicer
  s = shown m

  abbrev F : Splicer → Called
  F = f (length e)

  abbrev G : Splicer → Called
  G = g (length o)

  first : number_of (F s).answer ≡ 0
  first = sym (number-of p) ∙ z

  behind : number_of (G (shown one.memory)).answer ≡ 0
  behind = sym (number-of q) ∙ y

  second : number_of (G (F s).splicer).answer ≡ 0
  second = ap (λ (x : Splicer). number_of (G x).answer) (sym p.splicer) ∙ behind

  lone : number_of (G s).answer ≡ 0
  lone = alone-good mid until F G a b s first second

  state : shown two.memory ≡ shown alone.memory
  state =
      q.splicer ∙ ap (λ (x : Splicer). (G x).splicer) p.splicer ∙ together-state mid until F G a b s first second ∙ sym r.splicer

  ring : (see two.memory.words).ring_end ≡ (see alone.memory.words).ring_end
  ring =
      q.ring ∙ ap (λ x. shifted x (see one.memory.words).ring_end) (brings-only until G (shown one.memory) b behind)
      ∙ p.ring ∙ ap (λ x. shifted x (see m.words).ring_end) (brings-only mid F s a first)
      ∙ sym (r.ring ∙ ap (λ x. shifted x (see m.words).ring_end) (brings-only until G s b lone))

  -- "a good tick put in before a later one changes neither the bytes written by the two together nor the splicer after them"
  pub joined : (number alone ≡ 0) × (bytes_of one ++ bytes_of two ≡ bytes_of alone) × (two.memory ≡ alone.memory)
  joined =
      let w = lent.memory-same two.memory.words two.memory.bytes alone.memory.words alone.memory.bytes q.lent.whole
      r.lent.whole ring state in (
        number-of r ∙ lone,
        ap₂ ◌++◌ (bytes-of p) (bytes-of q ∙ ap (λ (x : Splicer). written_by (G x).answer) p.splicer)
            ∙ together-bytes mid until F G a b s first second ∙ sym (bytes-of r),
        memory-same two.memory alone.memory w.0 w.1,
      )
