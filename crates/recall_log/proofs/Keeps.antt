-- A good call and what the log keeps of it are one call: good both, with the same splicer behind them. And what is kept can be kept.
-- Rests on: the first message is all that a message call reads.
use mathlib.Core.Path.{◌≡◌, refl, sym, ap, ◌∙◌}
use mathlib.Core.Bool.{Bool, true, false, cond, not, ◌&&◌}
use mathlib.Core.List.{List, [], ◌∷◌}
use Prim.Native.Nat.{ℕ, ◌+◌, ◌≤◌}
use native.Mathlib.Omega.{arith}
use lib.Dec.{eqb, ltb}
use lib.ListN.{length}
use lib.Seq.{length-take-le}
use borrow.Author.Tests.{ltb-false, le-ltb}
use Rattle.rules.specs.declared.Refusal.{Refusal}
use Rattle.rules.specs.declared.Refusal.TheVariants.{Oversize, Short}
use Rattle.std.specs.Prelude.{Ok, Err}
use Rattle.rules.specs.declared.Message.{Message}
use Rattle.rules.specs.declared.Message.TheVariants.{Init, Alive, Splice, Abort, Config, Extended}
use Rattle.rules.specs.Bytes.{data_of, value, part, message_id, message_size, oversize}
use Rattle.rules.specs.Units.{bad_micros}
use Rattle.rules.specs.Reading.{init_request, is_read, read}
use Rattle.rules.specs.State.{Splicer, link_of, is_initialised}
use Rattle.rules.specs.Records.{General}
use Rattle.rules.specs.Answers.{says, answer_read, answer}
use Rattle.rules.specs.Card.{card_loans}
use Rattle.rules.specs.HouseNumbers.{Loans, Called, refuse, no_connection, no_room, not_open, long_section}
use Rattle.rules.specs.Calls.{section_of, headed, framing, handled}
use Rattle.rules.specs.Calls.{open_call, close_call, message_call, move_call, tick_call, Call, opens, closes, messages, ticks, moves, cues}
use Rattle.rules.specs.Calls.{call}
use Rattle.rules.specs.Follows.Sound.{Wired}
use Rattle.rules.proofs.Bytes.{part-byte}
use Rattle.recall_log.specs.Kept.{Its, kept_form, Good}
use Rattle.recall_log.proofs.Firsts.{part-take}
use Rattle.recall_log.proofs.Appends.{Keepable}
use Rattle.std.specs.Prelude.{None, Option, Some}

-- ## One call

-- the call y in place of the good call x
pub record Stands (x y : Called) : Type 0 where
  pub good : Good y.answer
  pub splicer : y.splicer ≡ x.splicer

itself : (x : Called) → Good x.answer → Stands x x
itself x g = record { good = g; splicer = refl }

-- a test that both make
both : (b : Bool) (n : Refusal) (s : Splicer) (x y : Called) → Good (cond b (refuse n s) x).answer → (Good x.answer → Stands x y)
    → Stands (cond b (refuse n s) x) (cond b (refuse n s) y)
both true n s x y g f = absurd g
both false n s x y g f = f g

-- a test that the kept one passes
past : (b : Bool) (n : Refusal) (s : Splicer) (x y : Called) → Good (cond b (refuse n s) x).answer → (Good x.answer → Stands x y)
    → Stands (cond b (refuse n s) x) y
past true n s x y g f = absurd g
past false n s x y g f = f g

-- 02, CR 6: the section on air is written, and changes no splicer
any-section : (c id : ℕ) (d m n : List ℕ) (s : Splicer) → (answer c id d m s).splicer ≡ (answer c id d n s).splicer
unfolding answer answer_read
any-section c id d m n s =
    go (eqb id 0x0000) (not (is_initialised (link_of c s)) && not (eqb id init_request)) (eqb id 0x000D) (not (is_read id)) (read id d)
  where
    one : (r : Option Message) → (answer_read c r d m s).splicer ≡ (answer_read c r d n s).splicer
    one (Some (Init revision)) = refl
    one (Some Alive) = refl
    one (Some (Splice r)) = refl
    one (Some (Abort x)) = refl
    one (Some Config) = refl
    one (Some (Extended x)) = refl
    one None = refl

    go : (a b e f : Bool) (r : Option Message)
        → (cond a (says [] s) (cond b (says (General c 103 ∷ []) s) (cond e (says [] s)
        (cond f (says (General c 120 ∷ []) s) (answer_read c r d m s))))).splicer
        ≡ (cond a (says [] s) (cond b (says (General c 103 ∷ []) s) (cond e (says [] s)
        (cond f (says (General c 120 ∷ []) s) (answer_read c r d n s))))).splicer
    go true b e f r = refl
    go false true e f r = refl
    go false false true f r = refl
    go false false false true r = refl
    go false false false false r = one r

-- l has a whole message that is not too long
pub record Framing (l : List ℕ) : Type 0 where
  pub whole : 8 + message_size l ≤ length l
  pub fits : oversize l ≡ false
  pub framed : framing l ≡ Ok (headed (message_id l) (message_size l))

framing-of : (c : ℕ) (l : List ℕ) (loans : Loans) (s : Splicer) → Good (handled c (framing l) l loans s).answer → Framing l
unfolding framing handled
framing-of c l loans s g = go (ltb (length l) 8) (oversize l) (ltb (length l) (8 + message_size l)) refl refl refl g
  where
    go : (a b d : Bool) → ltb (length l) 8 ≡ a → oversize l ≡ b → ltb (length l) (8 + message_size l) ≡ d
        → Good (handled c (cond a (Err Short) (cond b (Err Oversize)
        (cond d (Err Short) (Ok (headed (message_id l) (message_size l)))))) l loans s).answer
        → Framing l
    go true b d e f h g = absurd g
    go false true d e f h g = absurd g
    go false false true e f h g = absurd g
    go false false false e f h g = record { whole = ltb-false (length l) (8 + message_size l) h; fits = f; framed = rw (e, f, h) }

-- the first message of l
module _ (l : List ℕ) (f : Framing l) where
  abbrev size : ℕ
  size = 8 + message_size l

  abbrev front : List ℕ
  front = part 0 (8 + message_size l) l

  long : length front ≡ size
  long = length-take-le size l f.whole

  front-part : (a n : ℕ) → a + n ≤ size → part a n front ≡ part a n l
  front-part a n h = part-take a n size l h f.whole

  same_id : message_id front ≡ message_id l
  same_id = ap value (front-part 0 2 (omega arith))

  same_size : message_size front ≡ message_size l
  same_size = ap value (front-part 2 2 (omega arith))

  front-framed : framing front ≡ Ok (headed (message_id l) (message_size l))
  unfolding framing
  front-framed = rw (long, same_size, same_id, f.fits, le-ltb size 8 (omega arith), le-ltb size size (omega arith))

  -- a kept message is gone through with empty sections
  front-stands : (c : ℕ) (loans : Loans) (s : Splicer) → Stands (handled c (framing l) l loans s)
      (handled c (framing front) front card_loans s)
  unfolding handled
  front-stands c loans s =
      rw (f.framed, front-framed, front-part 8 (message_size l) (omega arith))
      (record {
        good = tt;
        splicer = any-section c (message_id l) (data_of (message_size l) l) (section_of card_loans s)
            (section_of loans s) s;
      })

  front-keepable : (length front ≡ 8 + message_size front) × (oversize front ≡ false)
  front-keepable = (long ∙ ap (λ x. 8 + x) (sym same_size), rw same_size f.fits)

pub kept-stands : (k : Call) (s : Splicer) → Good (call k s).answer → Stands (call k s) (call (kept_form k) s)
unfolding call kept_form open_call close_call message_call move_call tick_call
kept-stands (opens c) s g = itself _ g
kept-stands (closes c room) s g = both (no_connection c) _ s _ _ g (λ h. past (no_room room) _ s _ _ h (λ i. itself _ i))
kept-stands (messages c l loans) s g =
    both (no_connection c) _ s _ _ g
    (λ h. past (no_room loans.room) _ s _ _ h (λ i. both (not_open c s) _ s _ _ i
    (λ j. past (long_section loans) _ s _ _ j (λ k. front-stands l (framing-of c l loans s k) c loans s))))
kept-stands (ticks seconds micros room) s g =
    past (no_room room) _ s _ _ g (λ h. both (bad_micros micros) _ s _ _ h (λ i. past (no_room room) _ s _ _ i (λ j. itself _ j)))
kept-stands (moves until room) s g = itself _ g
kept-stands (cues section pts seconds micros room) s g = itself _ g

-- ## What is kept can be kept

-- behind a test
under : (b : Bool) (n : Refusal) (s : Splicer) (x : Called) → Good (cond b (refuse n s) x).answer → (b ≡ false) × Good x.answer
under true n s x g = absurd g
under false n s x g = (refl, g)

-- a good message call: its connection, and what was read
module _ (c : ℕ) (l : List ℕ) (loans : Loans) (s : Splicer) (g : Good (call (messages c l loans) s).answer) where
  behind : Good (handled c (framing l) l loans s).answer
  unfolding call message_call
  behind =
      (under (long_section loans) _ s _ (under (not_open c s) _ s _
      (under (no_room loans.room) _ s _ (under (no_connection c) _ s _ g).1).1).1).1

  pub good-framing : Framing l
  good-framing = framing-of c l loans s behind

  pub message-low : c ≤ 3
  unfolding call message_call
  message-low = ltb-false 3 c (under (no_connection c) _ s _ g).0

pub open-low : (c : ℕ) (s : Splicer) → Good (call (opens c) s).answer → c ≤ 3
unfolding call open_call
open-low c s g = ltb-false 3 c (under (no_connection c) _ s _ g).0

pub close-low : (c room : ℕ) (s : Splicer) → Good (call (closes c room) s).answer → c ≤ 3
unfolding call close_call
close-low c room s g = ltb-false 3 c (under (no_connection c) _ s _ g).0

pub keepable : (k : Call) (s : Splicer) → Its k → Wired k → Good (call k s).answer → Keepable (kept_form k)
unfolding call kept_form tick_call
keepable (opens c) s i w g = tt
keepable (closes c room) s i w g = refl
keepable (messages c l loans) s i w g = let k = front-keepable l (good-framing c l loans s g) in (refl, k.0, k.1)
keepable (ticks seconds micros room) s i w g =
    let a = under (no_room room) _ s _ g in
    let b = under (bad_micros micros) _ s _ a.1 in
    (refl, omega arith, omega (arith, ltb-false _ micros b.0))
keepable (moves until room) s i w g = absurd i
keepable (cues section pts seconds micros room) s i w g = absurd i

pub kept-wired : (k : Call) → Wired k → Wired (kept_form k)
unfolding kept_form
kept-wired (opens c) w = tt
kept-wired (closes c room) w = tt
kept-wired (messages c l loans) w = (part-byte 0 (8 + message_size l) l w.0, tt, tt)
kept-wired (ticks seconds micros room) w = w
kept-wired (moves until room) w = w
kept-wired (cues section pts seconds micros room) w = w

pub kept-its : (k : Call) → Its k → Its (kept_form k)
unfolding kept_form
kept-its (opens c) i = tt
kept-its (closes c room) i = tt
kept-its (messages c l loans) i = tt
kept-its (ticks seconds micros room) i = tt
kept-its (moves until room) i = i
kept-its (cues section pts seconds micros room) i = i
