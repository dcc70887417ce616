-- An entry from its mark and the bytes that it asks for, as the code reads them.
-- Rests on recording's laws of entries: each kind from its mark.
use mathlib.Core.Path.{◌≡◌, sym, ap, ◌∙◌}
use mathlib.Core.Bool.{true, false, cond}
use mathlib.Core.List.{List}
use Prim.Native.Nat.{ℕ, ◌≤◌, ◌<◌}
use native.Mathlib.Omega.{arith}
use lib.Dec.{eqb, ltb}
use lib.ListN.{length, get_or}
use borrow.Author.Tests.{le-ltb, eq-eqb, ne_eqb, eqb-false}
use Rattle.rules.specs.Bytes.{field, largest_size}
use Rattle.rules.specs.Card.{tick_mark, mark_in, mark_end, tick_end, header_end, message_end}
use Rattle.rules.proofs.Values.{field-one}
use Rattle.feed.proofs.Laws.{size-at}
use Rattle.recording.specs.declared.Entry.TheVariants.{Made, Wrote, Cut, Another, End}
use Rattle.recording.specs.Recording.{marks_call, marks_record, marks_message, message_span, span, entry_in}
use Rattle.recording.proofs.Entries.{is-another, is_made, is-wrote}
use Rattle.recording.proofs.Calling.{marked}

-- behind the first test, with the MessageSize where the code reads it
pub message-span-at : (l : List ℕ) (size : ℕ) → header_end ≤ length l → size ≡ field 4 2 l
    → message_span l ≡ cond (ltb largest_size size) header_end (message_end size)
message-span-at l size h e = rw (e ∙ size-at l, le-ltb (length l) header_end h)

pub end-at : (l : List ℕ) → length l ≡ 0 → End ≡ entry_in l
unfolding entry_in
end-at l h = sym (rw (eq-eqb (length l) 0 h))

pub some-at : (l : List ℕ) → eqb (length l) 0 ≡ false → 0 < length l
some-at l e = let h = eqb-false (length l) 0 e in omega arith

-- x: the mark
module _ (l : List ℕ) (h : 0 < length l) {x : ℕ} (e : x ≡ get_or l 0 0) where
  mark-at : mark_in l ≡ x
  mark-at = field-one 0 l h ∙ sym e

  span-at : span l ≡ cond (marks_message x) (message_span l) (cond (eqb x tick_mark) tick_end mark_end)
  span-at = marked l x mark-at

  pub span-message : marks_message x ≡ true → message_span l ≡ span l
  span-message f = sym (span-at ∙ rw f)

  pub span-tick : marks_message x ≡ false → x ≡ tick_mark → tick_end ≡ span l
  span-tick f t = sym (span-at ∙ rw (f, eq-eqb x tick_mark t))

  pub span-mark : marks_message x ≡ false → (x ≡ tick_mark → ⊥) → mark_end ≡ span l
  span-mark f t = sym (span-at ∙ rw (f, ne_eqb x tick_mark t))

  pub another-at : marks_call x ≡ false → marks_record x ≡ false → Another ≡ entry_in l
  another-at f k = sym (is-another l h (ap marks_call mark-at ∙ f) (ap marks_record mark-at ∙ k))

  -- n: the bytes that it asks for
  module _ {n : ℕ} (s : n ≡ span l) where
    pub call-at : marks_call x ≡ true → cond (ltb (length l) n) Cut (Made n) ≡ entry_in l
    call-at f = ap (λ k. cond (ltb (length l) k) Cut (Made k)) s ∙ sym (is_made l h (ap marks_call mark-at ∙ f))

    pub record-at : marks_call x ≡ false → marks_record x ≡ true → cond (ltb (length l) n) Cut (Wrote n) ≡ entry_in l
    record-at f k =
        ap (λ j. cond (ltb (length l) j) Cut (Wrote j)) s
        ∙ sym (is-wrote l h (ap marks_call mark-at ∙ f) (ap marks_record mark-at ∙ k))
