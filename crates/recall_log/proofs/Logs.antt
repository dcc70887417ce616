-- 02, CR 12: the log as a whole: when it is full, the bytes that its calls take, logs with the same calls, and any bytes as a log.
-- Rests on Walks and Appends.
use mathlib.Core.Path.{◌≡◌, refl, sym, subst, ap, ap₂, ◌∙◌}
use mathlib.Core.Bool.{Bool, true, false, not}
use mathlib.Core.List.{List, [], ◌∷◌, ◌++◌, append_assoc, append-nil}
use Prim.Native.Nat.{ℕ, zero, suc, ◌+◌, ◌-◌, ◌≤◌, ◌<◌}
use native.Mathlib.Omega.{arith}
use native.Mathlib.Nat.{add-zero}
use lib.Dec.{eqb, leb, ltb}
use lib.ListN.{length, take, drop, replicate, length-append, take-append-drop}
use lib.Seq.{length-take-le, take_at, drop_at, drop-drop}
use borrow.Author.Tests.{ltb-true, ltb-false, le-ltb, leb-false, le-leb, lt-leb, eqb-true, eq-eqb, ne_eqb}
use Rattle.rules.specs.Lists.{All, put}
use Rattle.rules.specs.Follows.Wires.{Byte}
use Rattle.rules.specs.Bytes.{message_size, oversize}
use Rattle.rules.specs.HouseNumbers.{Answer, refused}
use Rattle.rules.specs.Calls.{Call}
use Rattle.rules.specs.Card.{open_mark, close_mark, message_mark, tick_mark, mark_in, message_from, mark_end, tick_end, header_end}
use Rattle.rules.specs.Card.{message_end}
use Rattle.rules.specs.Card.{Next, calls, ends, stops, next, next_message, next_tick}
use Rattle.rules.specs.Follows.Sound.{Wired}
use Rattle.rules.proofs.Tests.{by, clash, or-none}
use Rattle.rules.proofs.All.{all_drop}
use Rattle.rules.proofs.Bytes.{part-byte, field_below}
use Rattle.recall_log.specs.Log.{kept_calls, taken, free, log_length, most_calls, longest_record, other_length, full}
use Rattle.recall_log.specs.Kept.{Its, marked, recorded, appended, cleared, log_after, Neat, space_in, Behind}
use Rattle.std.specs.Prelude.{None, Some}
use Rattle.recall_log.proofs.Firsts.{first}
use Rattle.recall_log.proofs.Walks.{calls-none, taken_none, calls-more, taken_more, through, within}
use Rattle.recall_log.proofs.Appends.{Keepable, marked-length, left, appended-is, appended-calls, appended-taken, appended-length}
use Rattle.recall_log.proofs.Appends.{cleared-calls, cleared-taken, cleared-length}

-- ## 13

-- what a log has that is not full
pub record Room (l : List ℕ) : Type 0 where
  pub long : length l ≡ log_length
  pub few : length (kept_calls l) < most_calls
  pub space : longest_record ≤ free l

pub other_length_lem : (l : List ℕ) → (length l ≡ log_length → ⊥) → other_length l ≡ true
unfolding other_length
other_length_lem l h = rw (ne_eqb (length l) log_length h)

pub same_length : (l : List ℕ) → length l ≡ log_length → other_length l ≡ false
unfolding other_length
same_length l h = rw (eq-eqb (length l) log_length h)

pub length-same : (l : List ℕ) → other_length l ≡ false → length l ≡ log_length
unfolding other_length
length-same l = go (eqb (length l) log_length) refl
  where
    go : (b : Bool) → eqb (length l) log_length ≡ b → not b ≡ false → length l ≡ log_length
    go true e f = eqb-true (length l) log_length e
    go false e f = absurd (clash true refl f)

pub not_full : (l : List ℕ) → full l ≡ false → Room l
unfolding full
not_full l e =
    let a = or-none (other_length l) _ e in
    let b = or-none (leb most_calls (length (kept_calls l))) _ a.1 in
    record {
      long = length-same l a.0;
      few = leb-false most_calls (length (kept_calls l)) b.0;
      space = ltb-false (free l) longest_record b.1;
    }

pub has_room : (l : List ℕ) → Room l → full l ≡ false
unfolding full
has_room l r =
    rw (same_length l r.long, lt-leb most_calls (length (kept_calls l)) r.few, le-ltb (free l) longest_record r.space)

pub full-length : (l : List ℕ) → (length l ≡ log_length → ⊥) → full l ≡ true
unfolding full
full-length l h = rw (other_length_lem l h)

pub full-calls : (l : List ℕ) → length l ≡ log_length → most_calls ≤ length (kept_calls l) → full l ≡ true
unfolding full
full-calls l e h = rw (same_length l e, le-leb most_calls (length (kept_calls l)) h)

-- behind the other two tests
pub full-space : (l : List ℕ) → length l ≡ log_length → length (kept_calls l) < most_calls → full l ≡ ltb (free l) longest_record
unfolding full
full-space l e h = rw (same_length l e, lt-leb most_calls (length (kept_calls l)) h)

-- where the next record goes
pub place_none : (l : List ℕ) → full l ≡ true → space_in l ≡ None
unfolding space_in
place_none l e = rw e

pub place-from : (l : List ℕ) → full l ≡ false → space_in l ≡ Some (taken l)
unfolding space_in
place-from l e = rw e

pub place-behind : (l : List ℕ) → full l ≡ false → Behind l (taken l)
place-behind l e = record { place = refl; room = omega (arith, (not_full l e).space, (within l).1) }

-- there is room for one call more, whatever it is
module _ (k : Call) (h : Keepable k) (l : List ℕ) (r : Room l) where
  pub record-fits : taken l + length (marked k) ≤ length l
  record-fits = omega (arith, r.space, (marked-length k h).1, (within l).1)

  pub kept-long : length (appended k l) ≡ log_length
  kept-long = appended-length k l record-fits ∙ r.long

-- a refused call is not kept and leaves the log as it was
pub refused-leaves : (k : Call) (a : Answer) (l : List ℕ) {n : _} → a ≡ refused n → log_after k a l ≡ l
unfolding log_after
refused-leaves k a l e = rw e

-- ## The bytes that are taken are those of the records

pub taken-recorded : (l : List ℕ) → taken l ≡ length (recorded (kept_calls l))
taken-recorded =
    through (λ l. taken l ≡ length (recorded (kept_calls l)))
    (λ l f. taken_none l f ∙ ap (λ x. length (recorded x)) (sym (calls-none l f)))
    (λ l k m e i.
    taken_more l e
    ∙ omega (arith, (first l e).marks, length-append (marked k) (recorded (kept_calls m)), i)
    ∙ ap (λ x. length (recorded x)) (sym (calls-more l e)))

pub recorded-append : (ks js : List Call) → recorded (ks ++ js) ≡ recorded ks ++ recorded js
recorded-append [] js = refl
recorded-append (k ∷ ks) js = ap (λ x. marked k ++ x) (recorded-append ks js) ∙ sym (append_assoc (marked k) (recorded ks) (recorded js))

-- ## Two logs with the same calls and zeros behind are equal

pub logs-same : (l m : List ℕ) → Neat l → Neat m → length l ≡ length m → kept_calls l ≡ kept_calls m → l ≡ m
logs-same l m n o e f =
    let t : taken l ≡ taken m = taken-recorded l ∙ ap (λ x. length (recorded x)) f ∙ sym (taken-recorded m) in
    sym (take-append-drop (taken l) l)
    ∙ ap₂ ◌++◌ (n.records ∙ ap recorded f ∙ sym o.records) (n.zeros ∙ ap (λ x. replicate x 0) (ap₂ ◌-◌ e t) ∙ sym o.zeros)
    ∙ take-append-drop (taken m) m

drop-zeros : (n m : ℕ) → drop n (replicate m 0) ≡ replicate {A = ℕ} (m - n) 0
drop-zeros zero m = let e : m ≡ m - 0 = omega arith in ap (λ i. replicate i 0) e
drop-zeros (suc n) zero = let e : 0 ≡ 0 - suc n = omega arith in ap (λ i. replicate i 0) e
drop-zeros (suc n) (suc m) = let e : m - n ≡ suc m - suc n = omega arith in drop-zeros n m ∙ ap (λ i. replicate i 0) e

-- zeros from the place a on, and n bytes written there: zeros behind those
left-zeros : (a n : ℕ) (l : List ℕ) → a + n ≤ length l → drop a l ≡ replicate (length l - a) 0 → left a n l ≡ replicate (length l - a - n) 0
left-zeros a n l h e = go (ltb (a + n) (length l)) refl
  where
    from : (i : ℕ) → drop (a + i) l ≡ replicate (length l - a - i) 0
    from i = sym (drop-drop i a l) ∙ ap (drop i) e ∙ drop-zeros i (length l - a)

    on : a + n + 1 ≡ a + (n + 1)
    on = omega arith

    less : a + n < length l → suc (length l - a - (n + 1)) ≡ length l - a - n
    less f = omega arith

    go : (b : Bool) → ltb (a + n) (length l) ≡ b → let z : List ℕ = put b 0 [] in
        z ++ drop (a + n + length z) l ≡ replicate (length l - a - n) 0
    go true f =
        ap (λ i. 0 ∷ drop i l) on ∙ ap (λ x. 0 ∷ x) (from (n + 1)) ∙ ap (λ i. replicate i 0) (less (ltb-true (a + n) (length l) f))
    go false f = ap (λ i. drop i l) (add-zero (a + n)) ∙ from n

pub neat-cleared : (l : List ℕ) → Neat (cleared l)
unfolding cleared
neat-cleared l =
    let n = cleared-taken l in
    let e : length l ≡ free (cleared l) = omega (arith, cleared-length l) in
    record {
      records = ap (λ x. take x (cleared l)) n ∙ ap recorded (sym (cleared-calls l));
      zeros = ap (λ x. drop x (cleared l)) n ∙ ap (λ x. replicate x 0) e;
    }

pub neat-appended : (k : Call) (l : List ℕ) → Keepable k → taken l + length (marked k) ≤ length l → Neat l → Neat (appended k l)
neat-appended k l h f n =
    let a = taken l in
    let t = appended-taken k h l in
    let p = take a l in
    let z = left a (length (marked k)) l in
    let is : appended k l ≡ (p ++ marked k) ++ z = appended-is k l ∙ sym (append_assoc p (marked k) z) in
    let long : length (p ++ marked k) ≡ taken (appended k l) = length-append p (marked k)
    ∙ omega (arith, length-take-le a l (within l).1) in
    record {
      records =
          ap (take (taken (appended k l))) is ∙ take_at (p ++ marked k) z (taken (appended k l)) long
          ∙ ap₂ ◌++◌ n.records (sym (append-nil (marked k))) ∙ sym (recorded-append (kept_calls l) (k ∷ []))
          ∙ ap recorded (sym (appended-calls k h l));
      zeros =
          let e : length l - a - length (marked k) ≡ free (appended k l) = omega (arith, appended-length k l f) in
          ap (drop (taken (appended k l))) is ∙ drop_at (p ++ marked k) z (taken (appended k l)) long
          ∙ left-zeros a (length (marked k)) l f n.zeros ∙ ap (λ x. replicate x 0) e;
    }

-- ## Any bytes are a log: its calls are calls of this engine, and their numbers are such as stand on a wire

abbrev Fits : Next → Type 0
Fits (calls k m) = Its k × Wired k × All Byte m
Fits (ends k) = Unit {0}
Fits stops = Unit {0}

fits : (l : List ℕ) → All Byte l → Fits (next l)
unfolding next next_message next_tick
fits l a =
    let m = message_from l in
    let n = message_end (message_size m) in
    by Fits (ltb (length l) mark_end) _ _ (λ e. tt)
    (λ e. by Fits (eqb (mark_in l) open_mark) _ _ (λ f. (tt, tt, all_drop Byte mark_end l a))
    (λ f. by Fits (eqb (mark_in l) close_mark) _ _ (λ g. (tt, tt, all_drop Byte mark_end l a))
    (λ g. by Fits (eqb (mark_in l) message_mark) _ _
    (λ h. by Fits (ltb (length l) header_end) _ _ (λ i. tt)
    (λ i. by Fits (oversize m) _ _ (λ j. tt)
    (λ j. by Fits (ltb (length l) n) _ _ (λ k. tt) (λ k. (
      tt,
      (part-byte 0 (8 + message_size m) m (all_drop Byte mark_end l a), tt, tt),
      all_drop Byte n l a,
    )))))
    (λ h. by Fits (eqb (mark_in l) tick_mark) _ _
    (λ i. by Fits (ltb (length l) tick_end) _ _ (λ j. tt) (λ j. (tt, field_below 2 4 l a, all_drop Byte tick_end l a)))
    (λ i. tt)))))

pub any-log : (l : List ℕ) → All Byte l → All Wired (kept_calls l) × All Its (kept_calls l)
any-log =
    through (λ l. All Byte l → All Wired (kept_calls l) × All Its (kept_calls l))
    (λ l f a. subst (λ x. All Wired x × All Its x) (sym (calls-none l f)) (tt, tt))
    (λ l k m e i a.
    let g : Its k × Wired k × All Byte m = subst Fits e (fits l a) in
    let r = i g.2 in
    subst (λ x. All Wired x × All Its x) (sym (calls-more l e)) ((g.1, r.0), (g.0, r.1)))
