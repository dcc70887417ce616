-- The calls in a log to which one was appended are those before and the new one.
-- Rests on Walks: from call to call through a log; and on `again` of Firsts: what is read does not change with what stands behind it.
use mathlib.Core.Path.{◌≡◌, refl, sym, subst, ap, ◌∙◌}
use mathlib.Core.Bool.{Bool, true, false}
use mathlib.Core.List.{List, [], ◌∷◌, ◌++◌, append_assoc, append-nil}
use Prim.Native.Nat.{ℕ, suc, ◌+◌, ◌^◌, ◌≤◌, ◌<◌}
use native.Mathlib.Omega.{arith}
use lib.Dec.{ltb}
use lib.ListN.{length, take, drop, replicate, length-append, length-replicate, drop_of_length-le}
use lib.Seq.{length-take-le, take_all, take_at, drop_at, take-add}
use borrow.Author.Tests.{ltb-true, ltb-false, le-ltb}
use Rattle.rules.specs.Lists.{put}
use Rattle.rules.specs.Bytes.{value, value_from, message_size, oversize, bytes, written, largest_size}
use Rattle.rules.specs.Calls.{Call, opens, closes, messages, ticks, moves, cues}
use Rattle.rules.specs.Card.{open_mark, close_mark, message_mark, tick_mark, mark_end, tick_end, header_end, message_end}
use Rattle.rules.specs.Card.{calls, stops, next, next_message, next_tick, card_room, card_loans}
use Rattle.rules.proofs.Tests.{by}
use Rattle.rules.proofs.Bytes.{length-bytes, value-bytes}
use Rattle.rules.proofs.Written.{length-written}
use Rattle.recall_log.specs.Log.{kept_calls, taken, free, longest_record}
use Rattle.recall_log.specs.Kept.{marked, zero_behind, appended, cleared}
use Rattle.recall_log.proofs.Firsts.{part-front, first}
use Rattle.recall_log.proofs.Walks.{NoCall, calls-none, taken_none, calls-more, taken_more, through, within, rest-long}

-- ## One record

-- a call in the form that is kept
abbrev pub Keepable : Call → Type 0
Keepable (opens c) = Unit {0}
Keepable (closes c room) = room ≡ card_room
Keepable (messages c l loans) = (loans ≡ card_loans) × (length l ≡ 8 + message_size l) × (oversize l ≡ false)
Keepable (ticks seconds micros room) = (room ≡ card_room) × (seconds < 256 ^ 4) × (micros < 256 ^ 4)
Keepable (moves until room) = ⊥
Keepable (cues section pts seconds micros room) = ⊥

one : (c : ℕ) → value (c ∷ []) ≡ c
unfolding value value_from
one c = omega arith

-- l: a whole message
message-next : (c : ℕ) (l y : List ℕ) → length l ≡ 8 + message_size l → oversize l ≡ false
    → next (message_mark ∷ c ∷ (l ++ y)) ≡ calls (messages c l card_loans) y
unfolding next next_message
message-next c l y e f =
    let n = length-append l y in
    rw (
      le-ltb (suc (suc (length (l ++ y)))) mark_end (omega arith),
      one message_mark,
      le-ltb (suc (suc (length (l ++ y)))) header_end (omega arith),
      ap value (part-front 2 2 l y (omega arith)),
      f,
      le-ltb (suc (suc (length (l ++ y)))) (message_end (message_size l)) (omega arith),
      one c,
      take_at l y (8 + message_size l) e,
      drop_at (message_mark ∷ c ∷ l) y (message_end (message_size l)) (omega arith),
    )

tick-next : (s u : ℕ) (y : List ℕ) → s < 256 ^ 4 → u < 256 ^ 4 → next (tick_mark ∷ 0x00 ∷ ((bytes 4 s ++ bytes 4 u) ++ y))
    ≡ calls (ticks s u card_room) y
unfolding next next_tick
tick-next s u y f g =
    let x = bytes 4 s ++ bytes 4 u in
    let m = length-append x y in
    let n : length x ≡ 8 = length-append (bytes 4 s) (bytes 4 u) ∙ omega (arith, length-bytes 4 s, length-bytes 4 u) in
    let a : take 4 (x ++ y) ≡ bytes 4 s = part-front 0 4 x y (omega arith) ∙ take_at (bytes 4 s) (bytes 4 u) 4 (length-bytes 4 s) in
    let b : take 4 (drop 4 (x ++ y)) ≡ bytes 4 u =
    part-front 4 4 x y (omega arith) ∙ ap (take 4) (drop_at (bytes 4 s) (bytes 4 u) 4 (length-bytes 4 s))
    ∙ take_all 4 (bytes 4 u) (omega (arith, length-bytes 4 u)) in
    rw (
      le-ltb (suc (suc (length (x ++ y)))) mark_end (omega arith),
      one tick_mark,
      le-ltb (suc (suc (length (x ++ y)))) tick_end (omega arith),
      a,
      b,
      value-bytes 4 s f,
      value-bytes 4 u g,
      drop_at x y 8 n,
    )

-- what was written as a record is read as that call, whatever stands behind it
pub next-marked : (k : Call) → Keepable k → (y : List ℕ) → next (marked k ++ y) ≡ calls k y
unfolding marked next
next-marked (opens c) h y = rw (le-ltb (suc (suc (length y))) mark_end (omega arith), one open_mark, one c)
next-marked (closes c room) h y = rw (le-ltb (suc (suc (length y))) mark_end (omega arith), one close_mark, one c, h)
next-marked (messages c l loans) h y = message-next c l y h.1 h.2 ∙ rw h.0
next-marked (ticks seconds micros room) h y = tick-next seconds micros y h.1 h.2 ∙ rw h.0
next-marked (moves until room) h y = absurd h
next-marked (cues section pts seconds micros room) h y = absurd h

pub marked-length : (k : Call) → Keepable k → (2 ≤ length (marked k)) × (length (marked k) ≤ longest_record)
unfolding marked
marked-length (opens c) h = (omega arith, omega arith)
marked-length (closes c room) h = (omega arith, omega arith)
marked-length (messages c l loans) h = (omega arith, omega (arith, h.1, ltb-false largest_size (message_size l) h.2))
marked-length (ticks seconds micros room) h =
    let n = length-append (bytes 4 seconds) (bytes 4 micros) in
    (omega arith, omega (arith, length-bytes 4 seconds, length-bytes 4 micros))
marked-length (moves until room) h = absurd h
marked-length (cues section pts seconds micros room) h = absurd h

-- ## A record behind the last

-- y: what stands behind it, no call
module _ (k : Call) (h : Keepable k) (y : List ℕ) (none : NoCall (next y)) where
  -- the log l, and behind its calls the record
  abbrev with : List ℕ → List ℕ
  with l = take (taken l) l ++ (marked k ++ y)

  alone : (l : List ℕ) → taken l ≡ 0 → next (with l) ≡ calls k y
  alone l e = ap (λ n. next (take n l ++ (marked k ++ y))) e ∙ next-marked k h y

  then : (l : List ℕ) {j : Call} {m : List ℕ} → next l ≡ calls j m → next (with l) ≡ calls j (with m)
  then l {j} {m} e =
      let f = first l e in
      let split : take (taken l) l ≡ take f.size l ++ take (taken m) m =
      ap (λ n. take n l) (taken_more l e) ∙ take-add f.size (taken m) l
      ∙ ap (λ x. take f.size l ++ take (taken m) x) (sym f.rest) in
      ap (λ x. next (x ++ (marked k ++ y))) split ∙ ap next (append_assoc (take f.size l) (take (taken m) m) (marked k ++ y))
      ∙ f.again (with m)

  calls-with : (l : List ℕ) → kept_calls (with l) ≡ kept_calls l ++ (k ∷ [])
  calls-with =
      through (λ l. kept_calls (with l) ≡ kept_calls l ++ (k ∷ []))
      (λ l f. calls-more (with l) (alone l (taken_none l f)) ∙ ap (λ x. k ∷ x) (calls-none y none)
      ∙ ap (λ x. x ++ (k ∷ [])) (sym (calls-none l f)))
      (λ l j m e i. calls-more (with l) (then l e) ∙ ap (λ x. j ∷ x) i ∙ ap (λ x. x ++ (k ∷ [])) (sym (calls-more l e)))

  long-with : (l : List ℕ) → length (with l) ≡ taken l + length (marked k) + length y
  long-with l =
      let a = length-append (take (taken l) l) (marked k ++ y) in
      omega (arith, length-append (marked k) y, length-take-le (taken l) l (within l).1)

  taken-with : (l : List ℕ) → taken (with l) ≡ taken l + length (marked k)
  taken-with =
      through (λ l. taken (with l) ≡ taken l + length (marked k))
      (λ l f.
      let e = alone l (taken_none l f) in
      omega (arith, taken_more (with l) e, rest-long (with l) e, taken_none l f, long-with l, taken_none y none))
      (λ l j m e i.
      let g = then l e in
      omega (arith, taken_more (with l) g, rest-long (with l) g, taken_more l e, long-with l, long-with m, i))

-- ## The zero behind the last

-- a zero is no mark
pub zero-none : (y : List ℕ) → NoCall (next (0 ∷ y))
unfolding next value value_from
zero-none y = by NoCall (ltb (suc (length y)) mark_end) stops stops (λ e. tt) (λ e. tt)

pub nothing-none : NoCall (next [])
unfolding next
nothing-none = tt

-- what stands behind n bytes written at the place a, and the zero
abbrev pub left : (a n : ℕ) → List ℕ → List ℕ
left a n l = let z = zero_behind (a + n) l in z ++ drop (a + n + length z) l

left-none : (a n : ℕ) (l : List ℕ) → NoCall (next (left a n l))
left-none a n l = go (ltb (a + n) (length l)) refl
  where
    go : (b : Bool) → ltb (a + n) (length l) ≡ b → let z : List ℕ = put b 0 [] in NoCall (next (z ++ drop (a + n + length z) l))
    go true e = zero-none (drop (a + n + 1) l)
    go false e = subst (λ x. NoCall (next x)) (sym (drop_of_length-le l {i = a + n + 0} (omega (arith, ltb-false (a + n) (length l) e))))
        nothing-none

pub appended-is : (k : Call) (l : List ℕ) → appended k l ≡ take (taken l) l ++ (marked k ++ left (taken l) (length (marked k)) l)
unfolding appended written
appended-is k l =
    let a = taken l in
    let n = length (marked k) in
    let z = zero_behind (a + n) l in
    let e : a + length (marked k ++ z) ≡ a + n + length z = omega (arith, length-append (marked k) z) in
    append_assoc (take a l) (marked k ++ z) (drop (a + length (marked k ++ z)) l)
    ∙ ap (λ x. take a l ++ x) (append_assoc (marked k) z (drop (a + length (marked k ++ z)) l))
    ∙ ap (λ i. take a l ++ (marked k ++ (z ++ drop i l))) e

-- ## What an appended log holds

module _ (k : Call) (h : Keepable k) (l : List ℕ) where
  none : NoCall (next (left (taken l) (length (marked k)) l))
  none = left-none (taken l) (length (marked k)) l

  -- the calls in an appended log are those before and the new one
  pub appended-calls : kept_calls (appended k l) ≡ kept_calls l ++ (k ∷ [])
  appended-calls = ap kept_calls (appended-is k l) ∙ calls-with k h (left (taken l) (length (marked k)) l) none l

  pub appended-taken : taken (appended k l) ≡ taken l + length (marked k)
  appended-taken = ap taken (appended-is k l) ∙ taken-with k h (left (taken l) (length (marked k)) l) none l

-- it is as long as it was, if the record fits
pub appended-length : (k : Call) (l : List ℕ) → taken l + length (marked k) ≤ length l → length (appended k l) ≡ length l
unfolding appended
appended-length k l h = length-written l (taken l) (marked k ++ zero_behind (taken l + length (marked k)) l)
    (go (ltb (taken l + length (marked k)) (length l)) refl)
  where
    go : (b : Bool) → ltb (taken l + length (marked k)) (length l) ≡ b → taken l + length (marked k ++ put b 0 []) ≤ length l
    go true e = omega (arith, length-append (marked k) (0 ∷ []), ltb-true (taken l + length (marked k)) (length l) e)
    go false e = omega (arith, ap length (append-nil (marked k)))

pub appended-free : (k : Call) (l : List ℕ) → Keepable k → taken l + length (marked k) ≤ length l
    → free (appended k l) + length (marked k) ≡ free l
appended-free k l h f = omega (arith, appended-taken k h l, appended-length k l f)

-- ## A cleared log

cleared-none : (l : List ℕ) → NoCall (next (cleared l))
unfolding cleared
cleared-none [] = nothing-none
cleared-none (b ∷ l) = zero-none (replicate (length l) 0)

pub cleared-calls : (l : List ℕ) → kept_calls (cleared l) ≡ []
cleared-calls l = calls-none (cleared l) (cleared-none l)

pub cleared-taken : (l : List ℕ) → taken (cleared l) ≡ 0
cleared-taken l = taken_none (cleared l) (cleared-none l)

pub cleared-length : (l : List ℕ) → length (cleared l) ≡ length l
unfolding cleared
cleared-length l = length-replicate (length l) 0
