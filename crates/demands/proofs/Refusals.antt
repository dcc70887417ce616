-- Demand 1 of the definitions: a refused call carries the first number that applies, writes nothing and changes nothing. Assumes nothing.
use mathlib.Core.Path.{◌≡◌, refl}
use mathlib.Core.Bool.{Bool, true, false, cond}
use mathlib.Core.List.{List, []}
use Prim.Native.Nat.{ℕ, ◌+◌, ◌<◌}
use native.Mathlib.Omega.{arith}
use lib.Dec.{ltb}
use lib.ListN.{length}
use Rattle.rules.specs.declared.Refusal.{Refusal}
use Rattle.rules.specs.declared.Link.TheVariants.{Opened}
use Rattle.rules.specs.declared.Refusal.TheVariants.{NoConnection, NoRoom, ClockBack, Oversize, Short, AlreadyOpen, NotOpen, BadMicros}
use Rattle.rules.specs.declared.Refusal.TheVariants.{BadName, Counter, LongSection, BadSection, NotSixteen}
use Rattle.rules.specs.Units.{time_of, bad_micros, from_micros}
use Rattle.rules.specs.Bytes.{message_id, message_size, oversize, has_zero, name_in}
use Rattle.rules.specs.State.{Splicer, link_of, is_open, with_link, with_queue}
use Rattle.rules.specs.Ends.{closed_by}
use Rattle.rules.specs.Cues.{bad_section, read_cue, cue_time, initialised_ones, cue_records}
use Rattle.rules.specs.HouseNumbers.{house_number, refused, refuse, does, written_by, consumed_by, buffer_after, no_connection, no_room}
use Rattle.rules.specs.HouseNumbers.{not_open}
use Rattle.rules.specs.HouseNumbers.{long_section}
use Rattle.rules.specs.Calls.{shut, named, fresh, open_call, close_call, framing, handled, message_call, ticked, move_call}
use Rattle.rules.specs.Calls.{tick_call, Call, opens, closes, messages, ticks, moves, cue_call, cues, call}
use Rattle.rules.proofs.Refused as rules
use Rattle.rules.proofs.Written.{written_none}
use Rattle.demands.specs.Told.{first_number, checks, number_of, Unchanged}
use Rattle.std.specs.Prelude.{Err, Ok}
use Rattle.rules.specs.Calls.{headed}

module _ (s : Splicer) where
  pub unchanged : (k : Call) (n : Refusal) → (call k s).answer ≡ refused n → Unchanged s (call k s)
  unfolding buffer_after written_by consumed_by
  unchanged k n e =
      record { splicer = rules.unchanged s k n e; written = rw e; consumed = rw e; buffer = λ b. rw e (written_none b 0) }

  pub first-number : (k : Call) → number_of (call k s).answer ≡ first_number (checks k s)
  unfolding call open_call close_call message_call framing handled move_call tick_call cue_call ticked number_of house_number first_number
      checks
  first-number (opens c) = go (no_connection c) (is_open (link_of c s))
    where
      go : (a b : Bool) → number_of (cond a (refuse NoConnection s)
          (cond b (refuse AlreadyOpen s) (does 0 [] (with_link c Opened s)))).answer ≡ cond a 1 (cond b 6 0)
      go true b = refl
      go false true = refl
      go false false = refl
  first-number (closes c room) = go (no_connection c) (no_room room) (not_open c s)
    where
      go : (a b d : Bool)
          → number_of (cond a (refuse NoConnection s) (cond b (refuse NoRoom s) (cond d (refuse NotOpen s)
          (does 0 (closed_by c s.queue).written (shut c (with_queue (closed_by c s.queue).queue s)))))).answer
          ≡ cond a 1 (cond b 2 (cond d 7 0))
      go true b d = refl
      go false true d = refl
      go false false true = refl
      go false false false = refl
  first-number (messages c l loans) = go (no_connection c) (no_room loans.room) (not_open c s) (long_section loans) (ltb (length l) 8)
      (oversize l) (ltb (length l) (8 + message_size l))
    where
      go : (a b d h e f g : Bool)
          → number_of (cond a (refuse NoConnection s) (cond b (refuse NoRoom s) (cond d (refuse NotOpen s) (cond h (refuse LongSection s)
          (handled c (cond e (Err Short) (cond f (Err Oversize)
          (cond g (Err Short) (Ok (headed (message_id l) (message_size l))))))
          l loans s))))).answer
          ≡ cond a 1 (cond b 2 (cond d 7 (cond h 10 (cond e 5 (cond f 4 (cond g 5 0))))))
      go true b d h e f g = refl
      go false true d h e f g = refl
      go false false true h e f g = refl
      go false false false true e f g = refl
      go false false false false true f g = refl
      go false false false false false true g = refl
      go false false false false false false true = refl
      go false false false false false false false = refl
  first-number (ticks seconds micros room) = go (no_room room) (bad_micros micros) (ltb (from_micros (time_of seconds micros)).0 s.clock)
    where
      go : (a b d : Bool)
          → number_of (cond a (refuse NoRoom s) (cond b (refuse BadMicros s) (cond a (refuse NoRoom s) (cond d (refuse ClockBack s)
          (ticked (from_micros (time_of seconds micros)).0 s))))).answer
          ≡ cond a 2 (cond b 8 (cond d 3 0))
      go true b d = refl
      go false true d = refl
      go false false true = refl
      go false false false = refl
  first-number (moves until room) = go (no_room room) (ltb until s.clock)
    where
      go : (a b : Bool) → number_of (cond a (refuse NoRoom s) (cond b (refuse ClockBack s) (ticked until s))).answer ≡ cond a 2 (cond b 3 0)
      go true b = refl
      go false true = refl
      go false false = refl
  first-number (cues l pts seconds micros room) = go (no_room room) (bad_micros micros) (bad_section l)
    where
      go : (a b d : Bool)
          → number_of (cond a (refuse NoRoom s) (cond b (refuse BadMicros s) (cond d (refuse BadSection s)
          (does 0 (cue_records (read_cue l) (cue_time pts seconds micros (read_cue l)) l (initialised_ones s.links)) s)))).answer
          ≡ cond a 2 (cond b 8 (cond d 11 0))
      go true b d = refl
      go false true d = refl
      go false false true = refl
      go false false false = refl

-- no refusal is number 0
pub a-number : (n : Refusal) → 0 < house_number n
unfolding house_number
a-number NoConnection = omega arith
a-number NoRoom = omega arith
a-number ClockBack = omega arith
a-number Oversize = omega arith
a-number Short = omega arith
a-number AlreadyOpen = omega arith
a-number NotOpen = omega arith
a-number BadMicros = omega arith
a-number BadName = omega arith
a-number Counter = omega arith
a-number BadSection = omega arith
a-number LongSection = omega arith
a-number NotSixteen = omega arith

-- "name without a zero byte"; "A refused fresh gives, with number 9, the splicer of an empty name."
pub fresh-number : (name : List ℕ) → number_of (fresh name).answer ≡ cond (has_zero name) 0 9
unfolding fresh number_of house_number
fresh-number name = go (has_zero name)
  where
    go : (b : Bool) → number_of (cond b (does 0 [] (named (name_in name))) (refuse BadName (named []))).answer ≡ cond b 0 9
    go true = refl
    go false = refl

pub fresh-refused : (name : List ℕ) → has_zero name ≡ false → fresh name ≡ refuse BadName (named [])
unfolding fresh
fresh-refused name e = rw e
