-- A call's entry is the call that the card program's input begins with, and is as long.
-- Rests on feed's `record_in`: both make the same tests of the mark and the header.
use mathlib.Core.Path.{◌≡◌, refl, sym, subst, ap, ◌∙◌}
use mathlib.Core.Bool.{Bool, true, false, cond}
use mathlib.Core.List.{List, ◌++◌}
use Prim.Native.Nat.{ℕ, ◌≤◌, ◌<◌}
use native.Mathlib.Omega.{arith}
use lib.Dec.{eqb, ltb}
use lib.ListN.{length, take, drop, take-append-drop}
use borrow.Author.Tests.{lt-ltb, le-ltb, ltb-true, ltb-false, eqb-true}
use Rattle.rules.specs.Bytes.{oversize}
use Rattle.rules.specs.Card.{open_mark, close_mark, message_mark, tick_mark, mark_in, conn_in, message_from, seconds_in, micros_in}
use Rattle.rules.specs.Card.{mark_end, tick_end, header_end, message_end}
use Rattle.rules.specs.Card.{Next, calls, ends, stops, next}
use Rattle.rules.proofs.Tests.{by, clash, failed, or-none}
use Rattle.feed.specs.declared.Record.{Record}
use Rattle.feed.specs.declared.Record.TheVariants as record_is
use Rattle.feed.specs.Feed.{size_in, message_in, record_in, next_of, used_by, is_cut, behind}
use Rattle.feed.proofs.Laws.{next-record}
use Rattle.feed.proofs.Runs.{next-behind}
use Rattle.recording.specs.declared.Entry.TheVariants.{Made, Cut}
use Rattle.recording.specs.Recording.{marks_call, marks_message, message_span, span, whole, entry_in, Bench, called_by}
use Rattle.recording.proofs.Entries.{Begins, begins-as, is_made, span-two, made-whole}

-- a test that is not failed is passed
passed : (b : Bool) → (b ≡ false → ⊥) → b ≡ true
passed true h = refl
passed false h = absurd (h refl)

-- ## The same tests

module _ (l : List ℕ) where
  -- the call's entry as the record has it
  abbrev Like : Record → Type 0
  Like r = whole l Made ≡ cond (is_cut r) Cut (Made (used_by r))

  like-cut : length l < span l → Like record_is.Cut
  unfolding is_cut
  like-cut h = rw (lt-ltb (length l) (span l) h)

  like-all : (r : Record) → is_cut r ≡ false → used_by r ≡ span l → span l ≤ length l → Like r
  like-all r c u h = rw (c, u, le-ltb (length l) (span l) h)

  -- n bytes are asked for, and r has so many
  like-whole : (n : ℕ) (r : Record) → span l ≡ n → is_cut r ≡ false → used_by r ≡ n → Like (cond (ltb (length l) n) record_is.Cut r)
  like-whole n r s c u =
      by Like (ltb (length l) n) record_is.Cut r (λ e. like-cut (omega (arith, ltb-true (length l) n e)))
      (λ e. like-all r c (u ∙ sym s) (omega (arith, ltb-false (length l) n e)))

  like-message : span l ≡ message_span l → Like (message_in l)
  unfolding is_cut used_by
  like-message s =
      by Like (ltb (length l) header_end) record_is.Cut _
      (λ e. let d : span l ≡ header_end = s ∙ rw e in like-cut (omega (arith, ltb-true (length l) header_end e)))
      (λ e. by Like (oversize (message_from l)) _ _
      (λ f. let d : span l ≡ header_end = s ∙ rw (e, f) in
      like-all (record_is.Oversize (conn_in l)) refl (sym d) (omega (arith, ltb-false (length l) header_end e)))
      (λ f. like-whole (message_end (size_in l)) (record_is.Message (conn_in l) (size_in l)) (s ∙ rw (e, f)) refl refl))

  -- the length of an entry with the mark x
  pub marked : (x : ℕ) → mark_in l ≡ x → span l ≡ cond (marks_message x) (message_span l) (cond (eqb x tick_mark) tick_end mark_end)
  unfolding span
  marked x e = ap (λ y. cond (marks_message y) (message_span l) (cond (eqb y tick_mark) tick_end mark_end)) e

  like-record : marks_call (mark_in l) ≡ true → Like (record_in l)
  unfolding record_in is_cut used_by
  like-record m =
      by Like (ltb (length l) mark_end) record_is.Cut _ (λ e. like-cut (omega (arith, ltb-true (length l) mark_end e, span-two l)))
      (λ e. let h = ltb-false (length l) mark_end e in
      by Like (eqb (mark_in l) open_mark) _ _
      (λ f. let d = marked open_mark (eqb-true (mark_in l) open_mark f) in
      like-all (record_is.Open (conn_in l)) refl (sym d) (omega (arith, d)))
      (λ f. by Like (eqb (mark_in l) close_mark) _ _
      (λ g. let d = marked close_mark (eqb-true (mark_in l) close_mark g) in
      like-all (record_is.Close (conn_in l)) refl (sym d) (omega (arith, d)))
      (λ g. by Like (eqb (mark_in l) message_mark) _ _ (λ k. like-message (marked message_mark (eqb-true (mark_in l) message_mark k)))
      (λ k. by Like (eqb (mark_in l) tick_mark) _ _
      (λ t. like-whole tick_end (record_is.Tick (seconds_in l) (micros_in l)) (marked tick_mark (eqb-true (mark_in l) tick_mark t)) refl
      refl)
      (λ t. absurd (clash _ m (rw (f, g, k, t))))))))

-- ## The call

-- what the card program makes of the bytes l, if they begin with a call of n bytes: that call, and it goes on behind it or stops
abbrev pub Calls : List ℕ → ℕ → Next → Type 0
Calls l n (calls k left) = left ≡ drop n l
Calls l n (ends k) = n ≡ header_end
Calls l n stops = ⊥

module _ (l : List ℕ) (n : ℕ) (e : entry_in l ≡ Made n) where
  -- "one behind the other": as long as the record
  pub as_long : (is_cut (record_in l) ≡ false) × (used_by (record_in l) ≡ n)
  as_long = clear (is_cut (record_in l)) (used_by (record_in l)) (sym e ∙ is_made l b.0.some b.1 ∙ like-record l b.1)
    where
      b : Begins l (Made n)
      b = begins-as l e

      clear : (x : Bool) (k : ℕ) → Made n ≡ cond x Cut (Made k) → (x ≡ false) × (k ≡ n)
      clear true k f = absurd (let z : ◌≡◌ {A = ℕ} 0 1 = cc in omega arith)
      clear false k f = (refl, cc)

  pub is-called : Calls l n (next l)
  unfolding is_cut used_by next_of
  is-called = subst (Calls l n) (sym (next-record l)) (go (record_in l) as_long.0 as_long.1)
    where
      two : 2 ≤ n
      two = let b : Begins l (Made n) = begins-as l e in omega (arith, span-two l, b.0.asked)

      go : (r : Record) → is_cut r ≡ false → used_by r ≡ n → Calls l n (next_of r l)
      go (record_is.Open c) f u = ap (λ k. drop k l) u
      go (record_is.Close c) f u = ap (λ k. drop k l) u
      go (record_is.Message c size) f u = ap (λ k. drop k l) u
      go (record_is.Oversize c) f u = sym u
      go (record_is.Tick s t) f u = ap (λ k. drop k l) u
      go record_is.Cut f u = absurd (clash true refl f)
      go record_is.Unknown f u = absurd (omega (arith, two))

-- whatever is behind the entry
pub next-same : (c m : List ℕ) {n : ℕ} → entry_in c ≡ Made n → next (c ++ m) ≡ behind m (next c)
next-same c m {n} e = next-behind c m (as_long c n e).0

-- and the other way round: where the card program makes a call, the entry is a whole call's
module _ (l : List ℕ) where
  -- no call's mark: no call
  strange-stops : marks_call (mark_in l) ≡ false → next l ≡ stops
  unfolding next
  strange-stops e =
      let a = or-none (eqb (mark_in l) open_mark) _ e in
      let b = or-none (eqb (mark_in l) close_mark) _ a.1 in
      let c = or-none (eqb (mark_in l) message_mark) (eqb (mark_in l) tick_mark) b.1 in
      by (λ x. x ≡ stops) (ltb (length l) mark_end) stops _ (λ f. refl) (λ f. rw (a.0, b.0, c.0, c.1))

  short-stops : length l < mark_end → next l ≡ stops
  unfolding next
  short-stops h = rw (lt-ltb (length l) mark_end h)

  cut-stops : is_cut (record_in l) ≡ true → next l ≡ stops
  unfolding is_cut next_of
  cut-stops e = next-record l ∙ go (record_in l) e
    where
      go : (r : Record) → is_cut r ≡ true → next_of r l ≡ stops
      go (record_is.Open c) f = absurd (clash false f refl)
      go (record_is.Close c) f = absurd (clash false f refl)
      go (record_is.Message c size) f = absurd (clash false f refl)
      go (record_is.Oversize c) f = absurd (clash false f refl)
      go (record_is.Tick s t) f = absurd (clash false f refl)
      go record_is.Cut f = refl
      go record_is.Unknown f = absurd (clash false f refl)

  pub made-when-called : (next l ≡ stops → ⊥) → entry_in l ≡ Made (span l)
  made-when-called n =
      let e : entry_in l ≡ Made (used_by (record_in l)) = is_made l (omega (arith, long)) call ∙ like-record l call ∙ rw whole-record in
      let b : Begins l (Made (used_by (record_in l))) = begins-as l e in
      e ∙ ap Made b.0.asked
    where
      long : mark_end ≤ length l
      long = ltb-false (length l) mark_end (failed (ltb (length l) mark_end) (λ f. n (short-stops (ltb-true (length l) mark_end f))))

      call : marks_call (mark_in l) ≡ true
      call = passed (marks_call (mark_in l)) (λ f. n (strange-stops f))

      whole-record : is_cut (record_in l) ≡ false
      whole-record = failed (is_cut (record_in l)) (λ f. n (cut-stops f))

-- the call of an entry is that of its own bytes
called-behind : (m : List ℕ) (x : Next) (g : Bench) → called_by (behind m x) g ≡ called_by x g
unfolding behind called_by
called-behind m (calls k left) g = refl
called-behind m (ends k) g = refl
called-behind m stops g = refl

pub called-front : (l : List ℕ) (n : ℕ) → entry_in l ≡ Made n → (g : Bench) → called_by (next (take n l)) g ≡ called_by (next l) g
called-front l n e g =
    sym (called-behind (drop n l) (next (take n l)) g)
    ∙ ap (λ x. called_by x g) (sym (next-same (take n l) (drop n l) (made-whole l n e)) ∙ ap next (take-append-drop n l))
