-- The two loops, entry by entry: what is said of the bytes that are left is what is said of all.
-- Rests on recording's laws of the entries at a place, and on the promise of a turn.
use mathlib.Core.Path.{◌≡◌, refl, sym, subst, ap, ◌∙◌}
use mathlib.Core.List.{List, []}
use mathlib.Core.Logic.{◌⊎◌, inl, inr}
use Prim.Native.Nat.{ℕ, ◌+◌, ◌-◌, ◌^◌, ◌≤◌, ◌<◌}
use native.Mathlib.Omega.{arith}
use lib.ListN.{length, drop, length-drop}
use lib.Seq.{take_all, drop-drop}
use borrow.Rule.Slice.PartMut.{mid_of}
use Rattle.std.specs.Prelude.{Option, Some, None, MatchOption}
use Rattle.std.specs.declared.ops.ControlFlow.{ControlFlow}
use Rattle.std.specs.declared.ops.ControlFlow.TheVariants.{Continue, Break}
use Rattle.rules.specs.Bytes.{padded}
use Rattle.rules.specs.Calls.{fresh}
use Rattle.rules.specs.Card.{card_name}
use Rattle.memory.specs.Memory.{shown}
use Rattle.engine.specs.Lent.{Lent}
use Rattle.recording.specs.declared.Entry.{Entry}
use Rattle.recording.specs.declared.Entry.TheVariants.{Made, Wrote, Cut, Another, End}
use Rattle.recording.specs.declared.Finding.{Finding}
use Rattle.recording.specs.declared.Finding.TheVariants.{Unknown}
use Rattle.recording.specs.Recording.{entry_in, entries_by, entries, judged, unknown_from, first_unknown}
use Rattle.recording.specs.Recording.{start, before, longest, checked}
use Rattle.recording.proofs.Entries.{Begins, begins-as, span-two}
use Rattle.recording.proofs.Refusing.{short-is, from, from_step, from-call, from-record}
use Rattle.judge.specs.declared.turns.Still.{Still}
use Rattle.judge.specs.Judge.{none, bench_of, Stands, GoesOn, Turned}

-- the bytes from the place `at` on
tail : (l : List ℕ) (at : ℕ) → mid_of at (length l - at) l ≡ drop at l
tail l at = take_all (length l - at) (drop at l) (omega (arith, length-drop at l))

-- ## Marks

-- what the entry at a place says of the first unknown mark from there on
abbrev pub Says : List ℕ → ℕ → Entry → Type 0
Says l at (Made n) = (2 ≤ n) × (at + n ≤ length l) × (from l at ≡ from l (at + n))
Says l at (Wrote n) = (2 ≤ n) × (at + n ≤ length l) × (from l at ≡ from l (at + n))
Says l at Cut = from l at ≡ None
Says l at Another = from l at ≡ Some (Unknown at)
Says l at End = from l at ≡ None

entry-says : (l : List ℕ) (at : ℕ) → at ≤ length l → (e : Entry) → entry_in (drop at l) ≡ e → Says l at e
unfolding entries_by unknown_from
entry-says l at h (Made n) e =
    let b : Begins (drop at l) (Made n) = begins-as (drop at l) e in
    let two = span-two (drop at l) in
    (omega (arith, b.0.asked), omega (arith, b.0.there, length-drop at l), from-call l at n e)
entry-says l at h (Wrote n) e =
    let b : Begins (drop at l) (Wrote n) = begins-as (drop at l) e in
    let two = span-two (drop at l) in
    (omega (arith, b.0.asked), omega (arith, b.0.there, length-drop at l), from-record l at n e)
entry-says l at h Cut e = from_step l at e
entry-says l at h Another e = from_step l at e
entry-says l at h End e = from_step l at e

pub says : (l : List ℕ) (at : ℕ) → at ≤ length l → {e : Entry} → e ≡ entry_in (mid_of at (length l - at) l) → Says l at e
says l at h {e} f = entry-says l at h e (ap entry_in (sym (tail l at)) ∙ sym f)

-- a whole entry, of either kind
pub says-whole : (l : List ℕ) (at : ℕ) → at ≤ length l → {e : Entry} {n : ℕ} → e ≡ entry_in (mid_of at (length l - at) l)
    → (e ≡ Made n) ⊎ (e ≡ Wrote n) → (2 ≤ n) × (at + n ≤ length l) × (from l at ≡ from l (at + n))
says-whole l at h f (inl g) = says l at h (sym g ∙ f)
says-whole l at h f (inr g) = says l at h (sym g ∙ f)

pub says-last : (l : List ℕ) (at : ℕ) → at ≤ length l → {e : Entry} → e ≡ entry_in (mid_of at (length l - at) l)
    → (e ≡ Cut) ⊎ (e ≡ End) → from l at ≡ None
says-last l at h f (inl g) = says l at h (sym g ∙ f)
says-last l at h f (inr g) = says l at h (sym g ∙ f)

pub from_all : (l : List ℕ) → first_unknown l ≡ from l 0
unfolding first_unknown
from_all l = refl

-- ## Judging

-- m₀ and b₀: the memory before any call
pub record Running (l m₀ b₀ m b o : List ℕ) (at : ℕ) (g : Still) : Type 0 where
  pub lent : Lent m b
  pub within : at ≤ length l
  pub stands : Stands g (drop at l) o
  pub finds : judged (bench_of none m₀ b₀ []) (entries l) ≡ judged (bench_of g m b o) (entries (drop at l))

pub running_none : (l m b o : List ℕ) → Lent m b → length l < 2 ^ 64 → Running l m b m b o 0 none
running_none l m b o t h =
    record {
      lent = t;
      within = omega arith;
      stands = record { within = omega arith; room = omega arith; few = omega arith };
      finds = refl;
    }

module _ {l m₀ b₀ m b o : List ℕ} {at : ℕ} {g : Still} (r : Running l m₀ b₀ m b o at g) where
  -- the part that is lent for one turn
  pub running-stands : Stands g (mid_of at (length l - at) l) o
  running-stands = subst (λ y. Stands g y o) (sym (tail l at)) r.stands

  -- a: what the turn gave
  module _ (a : ControlFlow (Option Finding) (ℕ × Still)) (v c q : List ℕ)
      (t : Turned (bench_of g m b o) (mid_of at (length l - at) l) a v c q) where
    turned : {x : ControlFlow (Option Finding) (ℕ × Still)} → a ≡ x → Turned (bench_of g m b o) (drop at l) x v c q
    turned {x} e = subst (λ y. Turned (bench_of g m b o) y x v c q) (tail l at)
        (subst (λ y. Turned (bench_of g m b o) (mid_of at (length l - at) l) y v c q) e t)

    pub running-over : {f : Option Finding} → a ≡ Break f → f ≡ judged (bench_of none m₀ b₀ []) (entries l)
    running-over e = sym (r.finds ∙ turned e)

    module _ {n : ℕ} {s : Still} (e : a ≡ Continue (n, s)) where
      on : GoesOn (bench_of g m b o) (drop at l) n s v c q
      on = turned e

      pub running-within : (0 < n) × (at + n ≤ length l)
      running-within = (on.some, omega (arith, on.there, length-drop at l, r.within))

      pub running_more : Running l m₀ b₀ v c q (at + n) s
      running_more =
          let d = drop-drop n at l in
          record {
            lent = on.lent;
            within = running-within.1;
            stands = subst (λ y. Stands s y q) d on.stands;
            finds = r.finds ∙ on.finds ∙ ap (λ y. judged (bench_of s v c q) (entries y)) d;
          }

-- ## The whole check

-- the splicer of the card program, before any call
pub judged-start : (l m b name : List ℕ) → shown m b ≡ (fresh name).splicer → name ≡ padded card_name
    → judged (bench_of none m b []) (entries l) ≡ judged start (entries l)
unfolding start
judged-start l m b name e f =
    ap (λ s. judged (record { splicer = s; number = 0; due = [] }) (entries l)) (e ∙ ap (λ x. (fresh x).splicer) f)

-- what the unknown mark is, or else the judgement
module _ (l : List ℕ) (h : length l ≤ longest) where
  pub checked-unknown : {u : Finding} → first_unknown l ≡ Some u → checked l ≡ Some u
  unfolding before
  checked-unknown e = short-is l h ∙ ap (λ x. before x (judged start (entries l))) e

  pub checked-judged : first_unknown l ≡ None → checked l ≡ judged start (entries l)
  unfolding before
  checked-judged e = short-is l h ∙ ap (λ x. before x (judged start (entries l))) e

  -- P: what the closure gave
  pub checked-or : {P : Type 0} {r : Option Finding} (u : Option Finding) → u ≡ first_unknown l
      → (P → r ≡ judged start (entries l)) → MatchOption u P (λ x. r ≡ Some x) → r ≡ checked l
  checked-or (Some x) e f m = m ∙ sym (checked-unknown (sym e))
  checked-or None e f m = f m ∙ sym (checked-judged (sym e))
