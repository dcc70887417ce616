-- One call: what its contract allows is what document 01 says of it. Rests on engine's answers-same and refused-unchanged.
use mathlib.Core.Path.{◌≡◌, refl, ap, ◌∙◌}
use mathlib.Core.List.{List}
use Prim.Native.Nat.{ℕ, ◌+◌}
use lib.ListN.{length, drop}
use lib.Seq.{take-append_seam}
use Rattle.rules.specs.declared.Refusal.{Refusal}
use Rattle.rules.specs.Bytes.{written}
use Rattle.rules.specs.Records.{output}
use Rattle.rules.specs.HouseNumbers.{Called, refused, good, written_by, buffer_after}
use Rattle.rules.specs.Calls.{call}
use Rattle.rules.specs.HouseNumbers as numbers
use Rattle.demands.specs.History.{wrote, reply_of}
use Rattle.rules.specs.Follows.Sound.{Wired}
use Rattle.memory.specs.Memory.{see}
use Rattle.std.specs.Prelude.{Err}
use Rattle.engine.specs.Lent.{Lent, answer_of, Answers}
use Rattle.engine.proofs.Laws.{answers-same, refused-unchanged}
use Rattle.demands.specs.Told.{first_number, checks, number_of}
use Rattle.demands.proofs.Refusals.{first-number}
use Rattle.demands_engine.specs.Trace.{Memory, shown, Input, an_open, a_close, a_message, a_tick, a_move, a_cue, Typed, call_of, buffer_of}
use Rattle.demands_engine.specs.Trace.{Result, Allowed, number_in, bytes_in, number, reply_in, AsRuled}

-- the types say what the rules ask of a call
pub wired : (i : Input) → Typed i → Wired (call_of i)
wired (an_open c) t = tt
wired (a_close c e) t = tt
wired (a_message c l pm im e) t = (t.1, t.2, t.3)
wired (a_tick seconds micros e) t = t.0
wired (a_move until e) t = t
wired (a_cue l pts seconds micros e) t = t.0

-- ## What the driver reads in an answer of document 01

pub bytes_read : (a : numbers.Answer) (k : ℕ) (e : List ℕ) → bytes_in (answer_of a k) (buffer_after a e) ≡ written_by a
unfolding bytes_in answer_of buffer_after written_by written
bytes_read (refused n) k e = refl
bytes_read (good consumed rs) k e = take-append_seam (output rs) (drop (0 + length (output rs)) e)

reply-read : (a : numbers.Answer) (k : ℕ) (e : List ℕ) → reply_in (answer_of a k) (buffer_after a e) ≡ reply_of a
unfolding reply_in answer_of bytes_in
reply-read (refused n) k e = refl
reply-read (good consumed rs) k e = ap (λ l. wrote l) (bytes_read (good consumed rs) k e)

pub number_read : (a : numbers.Answer) (k : ℕ) → number_in (answer_of a k) ≡ number_of a
unfolding number_in answer_of number_of
number_read (refused n) k = refl
number_read (good consumed rs) k = refl

pub memory-same : (m n : Memory) → m.words ≡ n.words → m.bytes ≡ n.bytes → m ≡ n
memory-same m n e f = λ i. record { words = e i; bytes = f i }

result-same : (r s : Result) → r.answer ≡ s.answer → r.memory ≡ s.memory → r.buffer ≡ s.buffer → r ≡ s
result-same r s d e f = λ i. record { answer = d i; memory = e i; buffer = f i }

module _ (m : Memory) where
  abbrev says : Input → Called
  says i = call (call_of i) (shown m)

  -- the contracts, as one
  pub promised : (i : Input) (r : Result) → Allowed m i r
      → Answers (says i) (see m.words).ring_end (buffer_of i) r.answer r.memory.words r.memory.bytes r.buffer
  unfolding call
  promised (an_open c) r a = a
  promised (a_close c e) r a = a
  promised (a_message c l pm im e) r a = a
  promised (a_tick seconds micros e) r a = a
  promised (a_move until e) r a = a
  promised (a_cue l pts seconds micros e) r a = a

  module _ (i : Input) (r : Result) (a : Allowed m i r) where
    pub as-ruled : AsRuled m i r
    as-ruled =
        let p = promised i r a in
        record {
          state = p.splicer;
          answer = p.answer;
          bytes = rw (p.answer, p.buffer) (bytes_read (says i).answer (says i).moved (buffer_of i));
          buffer = p.buffer;
        }

    pub replied : reply_in r.answer r.buffer ≡ reply_of (says i).answer
    replied = rw ((promised i r a).answer, (promised i r a).buffer) (reply-read (says i).answer (says i).moved (buffer_of i))

    pub number_is : number r ≡ number_of (says i).answer
    number_is = rw (promised i r a).answer (number_read (says i).answer (says i).moved)

    pub number-first : number r ≡ first_number (checks (call_of i) (shown m))
    number-first = number_is ∙ first-number (shown m) (call_of i)

    -- a refusal: the memory and the buffer are as they were
    pub unchanged : Lent m.words m.bytes → (n : Refusal) → r.answer ≡ Err n → (r.memory ≡ m) × (r.buffer ≡ buffer_of i)
    unchanged l n e =
        let u = refused-unchanged (call_of i) n m.words m.bytes (buffer_of i) r.answer
        r.memory.words r.memory.bytes r.buffer l (promised i r a) e in
        (memory-same r.memory m u.0 u.1, u.2)

  -- "any two results it allows are proved equal"
  pub step_same : (i : Input) (r s : Result) → Allowed m i r → Allowed m i s → r ≡ s
  step_same i r s a b =
      let u = answers-same (says i) (see m.words).ring_end (buffer_of i) r.answer s.answer r.memory.words r.memory.bytes
      r.buffer
      s.memory.words s.memory.bytes s.buffer (promised i r a) (promised i s b) in
      result-same r s u.0 (memory-same r.memory s.memory u.1 u.2) u.3
