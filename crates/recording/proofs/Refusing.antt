-- When a recording is refused, and what is found in one that is not.
-- Rests on proofs/Entries: the entries one by one.
use mathlib.Core.Path.{◌≡◌, refl, sym, subst, ap, ap₂, ◌∙◌}
use mathlib.Core.Bool.{Bool, true, false, cond}
use mathlib.Core.List.{List, [], ◌∷◌}
use Prim.Native.Nat.{ℕ, zero, suc, ◌+◌, ◌≤◌, ◌<◌}
use native.Mathlib.Omega.{arith}
use lib.Dec.{ltb}
use lib.ListN.{length, get_or, take, drop, length-drop}
use lib.Seq.{length-take-le, drop-drop}
use borrow.Author.Tests.{lt-ltb, le-ltb, ltb-true, ltb-false}
use Rattle.std.specs.Prelude.{Option, Some, None}
use Rattle.rules.specs.Card.{mark_in, next}
use Rattle.rules.proofs.Values.{field-one}
use Rattle.recording.specs.declared.Entry.{Entry}
use Rattle.recording.specs.declared.Entry.TheVariants.{Made, Wrote, Cut, Another, End}
use Rattle.recording.specs.declared.Finding.{Finding}
use Rattle.recording.specs.declared.Finding.TheVariants.{Longer, Unknown, Differs}
use Rattle.recording.specs.Recording.{marks_call, marks_record, entry_in, Item, made, wrote, cut, another, entries_by, entries}
use Rattle.recording.specs.Recording.{Bench, start, called_by, taken, begins, is_nothing, judged, unknown_from, first_unknown, before}
use Rattle.recording.specs.Recording.{longest, checked}
use Rattle.recording.specs.Recorded.{Begin, first, after_call, after_record, Strange}
use Rattle.recording.proofs.Entries.{Within, Begins, begins-as, is-another, span-two, entries-step}

-- ## Which findings there are

-- a place or none
abbrev pub IsPlace : Option Finding → Type 0
IsPlace (Some Longer) = ⊥
IsPlace (Some (Unknown i)) = Unit {0}
IsPlace (Some (Differs n)) = ⊥
IsPlace None = Unit {0}

-- a call or none
abbrev pub IsCall : Option Finding → Type 0
IsCall (Some Longer) = ⊥
IsCall (Some (Unknown i)) = ⊥
IsCall (Some (Differs n)) = Unit {0}
IsCall None = Unit {0}

pub only-places : (i : ℕ) (es : List Item) → IsPlace (unknown_from i es)
unfolding unknown_from
only-places i [] = tt
only-places i (made c ∷ es) = only-places (i + length c) es
only-places i (wrote w ∷ es) = only-places (i + length w) es
only-places i (cut l ∷ es) = tt
only-places i (another l ∷ es) = tt

call-or : (b : Bool) (x : Option Finding) (n : ℕ) → IsCall x → IsCall (cond b x (Some (Differs n)))
call-or true x n c = c
call-or false x n c = tt

pub only_calls : (g : Bench) (es : List Item) → IsCall (judged g es)
unfolding judged
only_calls g [] = call-or (is_nothing g.due) None g.number tt
only_calls g (made c ∷ es) = call-or (is_nothing g.due) _ g.number (only_calls (called_by (next c) g) es)
only_calls g (wrote w ∷ es) = call-or (begins w g.due) _ g.number (only_calls (taken (length w) g) es)
only_calls g (cut l ∷ es) = tt
only_calls g (another l ∷ es) = tt

-- ## What was read before a finding

-- not too long, no unknown mark, and then f
pub record Read (l : List ℕ) (f : Option Finding) : Type 0 where
  pub short : length l ≤ longest
  pub known : first_unknown l ≡ None
  pub found : judged start (entries l) ≡ f

module _ (l : List ℕ) where
  pub long-is : longest < length l → checked l ≡ Some Longer
  unfolding checked
  long-is h = rw (lt-ltb longest (length l) h)

  pub short-is : length l ≤ longest → checked l ≡ before (first_unknown l) (judged start (entries l))
  unfolding checked
  short-is h = rw (le-ltb longest (length l) h)

  place : IsPlace (first_unknown l)
  unfolding first_unknown
  place = only-places 0 (entries l)

  pub read_is : {f : Option Finding} → Read l f → checked l ≡ f
  unfolding before
  read_is {f} r = short-is r.short ∙ ap₂ before r.known r.found

  pub is_read : {f : Option Finding} → checked l ≡ f → IsCall f → Read l f
  unfolding before
  is_read {f} e c = go (ltb longest (length l)) refl
    where
      known : (u : Option Finding) → first_unknown l ≡ u → IsPlace u → before u (judged start (entries l)) ≡ f → length l ≤ longest
          → Read l f
      known None d p j h = record { short = h; known = d; found = j }
      known (Some (Unknown i)) d p j h = absurd (subst IsCall (sym j) c)
      known (Some (Differs n)) d p j h = absurd p
      known (Some Longer) d p j h = absurd p

      go : (b : Bool) → ltb longest (length l) ≡ b → Read l f
      go true d = absurd (subst IsCall (sym (sym (long-is (ltb-true longest (length l) d)) ∙ e)) c)
      go false d =
          let h = ltb-false longest (length l) d in
          known (first_unknown l) refl place (sym (short-is h) ∙ e) h

  pub is-long : checked l ≡ Some Longer → longest < length l
  unfolding before
  is-long e = go (ltb longest (length l)) refl
    where
      never : (u f : Option Finding) → IsPlace u → IsCall f → before u f ≡ Some Longer → ⊥
      never None f p c j = subst IsCall j c
      never (Some (Unknown i)) f p c j = subst IsPlace j tt
      never (Some (Differs n)) f p c j = p
      never (Some Longer) f p c j = p

      go : (b : Bool) → ltb longest (length l) ≡ b → longest < length l
      go true d = ltb-true longest (length l) d
      go false d =
          absurd (never (first_unknown l) (judged start (entries l)) place (only_calls start (entries l))
          (sym (short-is (ltb-false longest (length l) d)) ∙ e))

  -- ## An unknown mark

  unknown-is : {i : ℕ} → length l ≤ longest → first_unknown l ≡ Some (Unknown i) → checked l ≡ Some (Unknown i)
  unfolding before
  unknown-is {i} h e = short-is h ∙ ap (λ u. before u (judged start (entries l))) e

  pub is-unknown : {i : ℕ} → checked l ≡ Some (Unknown i) → (length l ≤ longest) × (first_unknown l ≡ Some (Unknown i))
  unfolding before
  is-unknown {i} e = go (ltb longest (length l)) refl
    where
      known : (u f : Option Finding) → IsPlace u → IsCall f → before u f ≡ Some (Unknown i) → u ≡ Some (Unknown i)
      known None f p c j = absurd (subst IsCall j c)
      known (Some (Unknown k)) f p c j = j
      known (Some (Differs n)) f p c j = absurd p
      known (Some Longer) f p c j = absurd p

      go : (b : Bool) → ltb longest (length l) ≡ b → (length l ≤ longest) × (first_unknown l ≡ Some (Unknown i))
      go true d = let z = sym (long-is (ltb-true longest (length l) d)) ∙ e in absurd (let y : ◌≡◌ {A = ℕ} 0 1 = cc in omega arith)
      go false d =
          let h = ltb-false longest (length l) d in
          (h, known (first_unknown l) (judged start (entries l)) place (only_calls start (entries l)) (sym (short-is h) ∙ e))

  -- the entries from the place i on
  abbrev pub from : ℕ → Option Finding
  from i = unknown_from i (entries (drop i l))

  pub from_step : (i : ℕ) {e : Entry} → entry_in (drop i l) ≡ e → from i ≡ unknown_from i (entries_by entries e (drop i l))
  from_step i f = ap (unknown_from i) (entries-step (drop i l) ∙ ap (λ x. entries_by entries x (drop i l)) f)

  -- behind a whole entry of n bytes
  from_next : (i n : ℕ) → n ≤ length (drop i l)
      → unknown_from (i + length (take n (drop i l))) (entries (drop n (drop i l))) ≡ from (i + n)
  from_next i n h =
      ap₂ (λ x y. unknown_from (i + x) (entries y)) (length-take-le n (drop i l) h) (drop-drop n i l)

  pub from-call : (i n : ℕ) → entry_in (drop i l) ≡ Made n → from i ≡ from (i + n)
  unfolding entries_by unknown_from
  from-call i n e = let b : Begins (drop i l) (Made n) = begins-as (drop i l) e in from_step i e ∙ from_next i n b.0.there

  pub from-record : (i n : ℕ) → entry_in (drop i l) ≡ Wrote n → from i ≡ from (i + n)
  unfolding entries_by unknown_from
  from-record i n e = let b : Begins (drop i l) (Wrote n) = begins-as (drop i l) e in from_step i e ∙ from_next i n b.0.there

  -- wherever an entry begins
  begins-there : {i : ℕ} → Begin l i → first_unknown l ≡ from i
  unfolding first_unknown
  begins-there first = refl
  begins-there (after_call {i} {n} b e) = begins-there b ∙ from-call i n e
  begins-there (after_record {i} {n} b e) = begins-there b ∙ from-record i n e

  -- the place that is found: an entry begins there, with another mark
  finds : (n at i : ℕ) → length (drop at l) < n → Begin l at → from at ≡ Some (Unknown i) → Begin l i × (entry_in (drop i l) ≡ Another)
  unfolding entries_by unknown_from
  finds zero at i h b f = absurd (omega arith)
  finds (suc n) at i h b f = go (entry_in (drop at l)) refl (λ k t c g. finds n (at + k) i t c g)
    where
      shorter : (k : ℕ) → Within (drop at l) k → length (drop (at + k) l) < n
      shorter k w = omega (arith, length-drop at l, length-drop (at + k) l, w.there, w.asked, span-two (drop at l))

      go : (e : Entry) → entry_in (drop at l) ≡ e
          → ((k : ℕ) → length (drop (at + k) l) < n → Begin l (at + k) → from (at + k) ≡ Some (Unknown i)
          → Begin l i × (entry_in (drop i l) ≡ Another))
          → Begin l i × (entry_in (drop i l) ≡ Another)
      go (Made k) e r =
          let w : Begins (drop at l) (Made k) = begins-as (drop at l) e in
          r k (shorter k w.0) (after_call b e) (sym (from-call at k e) ∙ f)
      go (Wrote k) e r =
          let w : Begins (drop at l) (Wrote k) = begins-as (drop at l) e in
          r k (shorter k w.0) (after_record b e) (sym (from-record at k e) ∙ f)
      go Cut e r = let z = sym (from_step at e) ∙ f in absurd (let y : ◌≡◌ {A = ℕ} 0 1 = cc in omega arith)
      go Another e r =
          let z : at ≡ i = (let x = sym (from_step at e) ∙ f in cc) in (subst (Begin l) z b, ap (λ k. entry_in (drop k l)) (sym z) ∙ e)
      go End e r = let z = sym (from_step at e) ∙ f in absurd (let y : ◌≡◌ {A = ℕ} 0 1 = cc in omega arith)

  pub strange-unknown : {i : ℕ} → Strange l i → checked l ≡ Some (Unknown i)
  unfolding entries_by unknown_from
  strange-unknown {i} s =
      let m : mark_in (drop i l) ≡ get_or l i 0 = field-one i l s.inside in
      let e = is-another (drop i l) (omega (arith, length-drop i l, s.inside)) (ap marks_call m ∙ s.no_call)
      (ap marks_record m ∙ s.no_record) in
      unknown-is s.read (begins-there s.begin ∙ from_step i e)

  pub unknown-strange : {i : ℕ} → checked l ≡ Some (Unknown i) → Strange l i
  unfolding first_unknown
  unknown-strange {i} e =
      let u = is-unknown e in
      let f = finds (suc (length l)) 0 i (omega arith) first u.1 in
      let b : Begins (drop i l) Another = begins-as (drop i l) f.1 in
      let h : i < length l = omega (arith, b.0, length-drop i l) in
      let m : get_or l i 0 ≡ mark_in (drop i l) = sym (field-one i l h) in
      record { read = u.0; begin = f.0; inside = h; no_call = ap marks_call m ∙ b.1; no_record = ap marks_record m ∙ b.2 }
