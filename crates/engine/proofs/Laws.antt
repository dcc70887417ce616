-- Each promise determines its result: any two results that it allows are equal, and a refusal leaves everything as it was.
-- Rests on memory's memory-same: what is shown determines every word and byte.
use mathlib.Core.Path.{◌≡◌, sym, ◌∙◌}
use mathlib.Core.Bool.{Bool, false, cond}
use mathlib.Core.List.{List, []}
use Prim.Native.Nat.{ℕ}
use native.Mathlib.Omega.{arith}
use lib.Dec.{ltb}
use lib.ListN.{length, replicate}
use Rattle.rules.specs.declared.Refusal.{Refusal}
use Rattle.rules.specs.declared.Refusal.TheVariants.{NoConnection, NoRoom, ClockBack, AlreadyOpen, NotOpen, BadMicros, BadName}
use Rattle.rules.specs.declared.Refusal.TheVariants.{LongSection, BadSection}
use Rattle.rules.specs.declared.Header.{Header}
use Rattle.rules.specs.Lists.{All}
use Rattle.rules.specs.Units.{bad_micros, time_of, from_micros}
use Rattle.rules.specs.Follows.Wires.{Byte}
use Rattle.rules.specs.Bytes.{has_zero}
use Rattle.rules.specs.State.{Splicer, is_open, link_of}
use Rattle.rules.specs.Answers.{Answered, says}
use Rattle.rules.specs.Cues.{bad_section}
use Rattle.rules.specs.HouseNumbers.{Called, refused, good, refuse, does}
use Rattle.rules.specs.Calls.{Call, opens, closes, messages, ticks, moves, cues, cue_call, call}
use Rattle.rules.specs.HouseNumbers.{replies, buffer_after, no_connection, no_room, not_open, Loans, long_section}
use Rattle.rules.specs.Calls.{open_call, close_call, message_call}
use Rattle.rules.specs.Calls.{framing, handled, move_call, tick_call, ticked, fresh}
use Rattle.rules.specs.HouseNumbers as numbers
use Rattle.rules.specs.Records.{Record}
use Rattle.rules.proofs.Tests.{by}
use Rattle.memory.specs.Memory.{words, bytes, see, shown}
use Rattle.memory.proofs.Laws.{memory-same, cleared-now}
use Rattle.memory.proofs.Names.{cleared}
use Rattle.std.specs.Prelude.{Result, Ok, Err}
use Rattle.engine.specs.Lent.{Lent, Answer, answer_of, Answers}
use Rattle.engine.proofs.Beginning.{fresh-bad}
use Rattle.engine.proofs.Calls.{refused_as, guarded}

-- ## "any two results it allows are proved equal"

-- the buffer is an equation, so two results hold the same
pub buffer-same : (a : numbers.Answer) (e o p : List ℕ) → o ≡ buffer_after a e → p ≡ buffer_after a e → o ≡ p
buffer-same a e o p f g = f ∙ sym g

pub answers-same : (c : Called) (at : ℕ) (e : List ℕ) (r s : Answer) (m b o n d p : List ℕ) → Answers c at e r m b o
    → Answers c at e s n d p
    → (r ≡ s) × (m ≡ n) × (b ≡ d) × (o ≡ p)
answers-same c at e r s m b o n d p x y =
    let k = memory-same m b n d x.lent.whole y.lent.whole (x.ring ∙ sym y.ring) (x.splicer ∙ sym y.splicer) in
    (x.answer ∙ sym y.answer, k.0, k.1, buffer-same c.answer e o p x.buffer y.buffer)

-- ## "A refusal returns its number, writes nothing, consumes nothing and changes no state."

module _ (s : Splicer) (n : Refusal) where
  -- what a call does that is refused with n
  abbrev Keeps : Called → Type 0
  Keeps c = c.answer ≡ refused n → c ≡ refuse n s

  keeps-refuse : (m : Refusal) → Keeps (refuse m s)
  keeps-refuse m e = cc

  keeps-replies : (consumed : ℕ) (a : Answered) → Keeps (replies consumed a)
  keeps-replies consumed a e = let z : ◌≡◌ {A = ℕ} 0 1 = cc in absurd (omega arith)

  keeps-does : (consumed : ℕ) (rs : List Record) (t : Splicer) → Keeps (does consumed rs t)
  keeps-does consumed rs t = keeps-replies consumed (says rs t)

  keeps-handled : (c : ℕ) (f : Result Header Refusal) (l : List ℕ) (loans : Loans) → Keeps (handled c f l loans s)
  unfolding handled
  keeps-handled c (Err m) l loans = keeps-refuse m
  keeps-handled c (Ok h) l loans = keeps-replies _ _

  -- a test, and what follows it
  keeps-test : (b : Bool) (m : Refusal) (c : Called) → Keeps c → Keeps (cond b (refuse m s) c)
  keeps-test b m c k = by Keeps b (refuse m s) c (λ e. keeps-refuse m) (λ e. k)

  keeps-guarded : (c room : ℕ) (x : Called) → Keeps x → Keeps (guarded c room s x)
  keeps-guarded c room x k =
      keeps-test (no_connection c) NoConnection _ (keeps-test (no_room room) NoRoom _ (keeps-test (not_open c s) NotOpen x k))

  keeps-move : (until room : ℕ) → Keeps (move_call until room s)
  unfolding move_call ticked
  keeps-move until room = keeps-test (no_room room) NoRoom _ (keeps-test (ltb until s.clock) ClockBack _ (keeps-does _ _ _))

  pub call-refused : (k : Call) → Keeps (call k s)
  unfolding call open_call close_call message_call tick_call cue_call
  call-refused (opens c) =
      keeps-test (no_connection c) NoConnection _ (keeps-test (is_open (link_of c s)) AlreadyOpen _ (keeps-does _ _ _))
  call-refused (closes c room) = keeps-guarded c room _ (keeps-does _ _ _)
  call-refused (messages c l loans) = keeps-guarded c loans.room _
      (keeps-test (long_section loans) LongSection _ (keeps-handled c (framing l) l loans))
  call-refused (ticks seconds micros room) =
      keeps-test (no_room room) NoRoom _
      (keeps-test (bad_micros micros) BadMicros _ (keeps-move (from_micros (time_of seconds micros)).0 room))
  call-refused (moves until room) = keeps-move until room
  call-refused (cues l pts seconds micros room) =
      keeps-test (no_room room) NoRoom _ (keeps-test (bad_micros micros) BadMicros _
      (keeps-test (bad_section l) BadSection _ (keeps-does _ _ _)))

pub refused-answer : (a : numbers.Answer) (moved : ℕ) (n : Refusal) → Err n ≡ answer_of a moved → a ≡ refused n
unfolding answer_of
refused-answer (refused m) moved n e = cc
refused-answer (good consumed rs) moved n e = let z : ◌≡◌ {A = ℕ} 0 1 = cc in absurd (omega arith)

-- of every result that the contract of a call other than fresh allows: the words, the bytes and the buffer are as they were
pub refused-unchanged : (k : Call) (n : Refusal) (m b e : List ℕ) (r : Answer) (v c o : List ℕ) → Lent m b
    → Answers (call k (shown m b)) (see m).ring_end e r v c o → r ≡ Err n → (v ≡ m) × (c ≡ b) × (o ≡ e)
refused-unchanged k n m b e r v c o l a f =
    let x = call k (shown m b) in
    let y = call-refused (shown m b) n k (refused-answer x.answer x.moved n (sym f ∙ a.answer)) in
    let z = answers-same x (see m).ring_end e r (Err n) v c o m b e a (refused_as x n l y) in
    (z.1, z.2, z.3)

-- "A refused fresh gives, with number 9, the splicer of an empty name."
pub fresh-refused : (name : List ℕ) (r : Answer) (m b o : List ℕ) → length name ≡ 32 → All Byte name → has_zero name ≡ false
    → Answers (fresh name) 0 [] r m b o → (r ≡ Err BadName) × (m ≡ replicate words 0) × (b ≡ replicate bytes 0) × (o ≡ [])
fresh-refused name r m b o long wide z a =
    answers-same (fresh name) 0 [] r (Err BadName) m b o (replicate words 0) (replicate bytes 0) [] a
    (fresh-bad name long wide cleared-now cleared z)
