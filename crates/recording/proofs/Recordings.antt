-- 02, CR 14, as theorems about the definitions, each under its sentence.
-- Rests on proofs/Own, Passing, Judging, First and Refusing.
use mathlib.Core.Path.{◌≡◌, refl, sym, subst, ap, ◌∙◌}
use mathlib.Core.Bool.{true, false}
use mathlib.Core.Logic.{◌⊎◌, ⊎_elim}
use mathlib.Core.List.{List, [], ◌++◌, map, append-nil}
use Prim.Native.Nat.{ℕ, ◌≤◌, ◌<◌}
use native.Mathlib.Omega.{arith}
use lib.Dec.{ltb}
use lib.ListN.{length, take}
use borrow.Author.Tests.{ltb-true, ltb-false}
use Rattle.std.specs.Prelude.{Option, Some, None}
use Rattle.rules.specs.Lists.{All}
use Rattle.rules.specs.Follows.Wires.{Byte}
use Rattle.rules.specs.Bytes.{padded}
use Rattle.rules.specs.State.{Splicer}
use Rattle.rules.specs.Follows.Sound.{Wired, Sound}
use Rattle.rules.specs.Calls.{Call, call}
use Rattle.rules.specs.Card.{card_name, told, card}
use Rattle.rules.proofs.Bytes.{padded-byte}
use Rattle.rules.proofs.Sound.{sound-fresh}
use Rattle.rules.proofs.Tests.{clash, failed}
use Rattle.recording.specs.declared.Finding.{Finding}
use Rattle.recording.specs.declared.Finding.TheVariants.{Longer, Unknown, Differs}
use Rattle.recording.specs.Recording.{wrote, entries_run, entries, start, first_unknown, longest, checked}
use Rattle.recording.specs.Recorded.{recorded_up_to, recorded, Behind, unread, pieces, bytes_of, made_bytes, wrote_bytes, ends_cut}
use Rattle.recording.specs.Recorded.{has_oversize}
use Rattle.recording.specs.Recorded.{calls_in, wrote_after, due_after, right_by, right, Strange}
use Rattle.recording.proofs.Entries.{valid, bytes-all}
use Rattle.recording.proofs.Due.{entries-told}
use Rattle.recording.proofs.Own.{entries-own, own-records, own-calls, first_run}
use Rattle.recording.proofs.Passing.{Passes, passes-own, passes-cut-own}
use Rattle.recording.proofs.Judging.{passed-ours}
use Rattle.recording.proofs.First.{right-itself, none_right, differs-first}
use Rattle.recording.proofs.Refusing.{read_is, is_read, is-long, long-is, is-unknown, strange-unknown, unknown-strange}

-- the splicer of the card program, before any call
pub sound-start : Sound start.splicer
unfolding start card_name
sound-start = sound-fresh (padded card_name) refl (padded-byte card_name (omega arith, (omega arith, (omega arith, tt))))

-- ## Entries

-- every byte of a recording belongs to one entry
pub nothing-lost : (l : List ℕ) → bytes_of (entries l) ≡ l
nothing-lost l = bytes-all l

-- entries end where records end: each record that is due is one entry, so bytes are compared record by record
pub due-in-entries : (s : Splicer) → Sound s → (k : Call) → Wired k
    → entries (told (call k s).answer) ≡ map wrote (pieces (call k s).answer)
unfolding entries entries_run
due-in-entries s h k w =
    ap entries (sym (append-nil (told (call k s).answer))) ∙ entries-told s k [] w h ∙ append-nil (map wrote (pieces (call k s).answer))

-- ## "Every recording of that length that our own card program could have made passes."

-- what `recorded` is: its records are the card program's output, in order, and its calls the part of the input that the card program reads
pub recorded-is-the-card : (l : List ℕ) → All Byte l
    → (wrote_bytes (entries (recorded l)) ≡ card l) × (made_bytes (entries (recorded l)) ++ unread l ≡ l)
unfolding recorded recorded_up_to card unread start
recorded-is-the-card l a =
    let e = entries-own (length l) start.splicer l sound-start a in (
      ap wrote_bytes e ∙ own-records (length l) start.splicer l,
      ap (λ es. made_bytes es ++ unread l) e ∙ own-calls (length l) start.splicer l,
    )

-- as much of it as n calls are
passes-up-to : (n : ℕ) (l : List ℕ) → All Byte l → length (recorded_up_to n l) ≤ longest → checked (recorded_up_to n l) ≡ None
unfolding recorded_up_to start first_unknown
passes-up-to n l a h =
    let p = subst (Passes start) (sym (entries-own n start.splicer l sound-start a)) (passes-own n start.splicer 0 l) in
    read_is (recorded_up_to n l) (record { short = h; known = p.known 0; found = p.judges })

pub own-passes : (l : List ℕ) → All Byte l → length (recorded l) ≤ longest → checked (recorded l) ≡ None
unfolding recorded
own-passes l a h = passes-up-to (length l) l a h

-- and cut anywhere inside an entry, or behind all due records of a call
pub own-cut-passes : (l : List ℕ) (m : ℕ) → All Byte l → length (take m (recorded l)) ≤ longest
    → (ends_cut (entries (take m (recorded l))) ≡ true) ⊎ Behind l m → checked (take m (recorded l)) ≡ None
unfolding recorded recorded_up_to start first_unknown
own-cut-passes l m a h =
    ⊎_elim
    (λ e. let p = passes-cut-own (length l) start.splicer 0 l sound-start a m e in
    read_is (take m (recorded l)) (record { short = h; known = p.known 0; found = p.judges }))
    (λ b. ap checked b.are ∙ passes-up-to b.calls l a (subst (λ x. length x ≤ longest) b.are h))

-- the recording of its first n calls is such a beginning
pub first-calls : (l : List ℕ) (n : ℕ) → n ≤ length l → Behind l (length (recorded_up_to n l))
unfolding recorded recorded_up_to
first-calls l n h = record { calls = n; are = first_run n (length l) start.splicer l h }

-- ## And nothing else does

-- a recording that is not cut, has no oversize message among its calls and gets none is that of its own calls, byte for byte
pub none-is-ours : (l : List ℕ) → checked l ≡ None → ends_cut (entries l) ≡ false → has_oversize (entries l) ≡ false
    → l ≡ recorded (made_bytes (entries l))
unfolding recorded recorded_up_to start first_unknown
none-is-ours l e c o =
    let r = is_read l e tt in
    sym (bytes-all l)
    ∙ passed-ours (entries l) start (length (made_bytes (entries l))) 0 (valid l) r.found r.known c o (omega arith)

-- ## "names the first call whose records aren't those that the rules give, or says that there is none"

-- every call before it has exactly its due records, and it has not: not even the beginning of them, if the recording is cut and it is the
-- last
pub first-that-differs : (l : List ℕ) (n : ℕ) → checked l ≡ Some (Differs n)
    → (n ≤ length (calls_in (entries l)))
    × ((i : ℕ) → i < n → wrote_after (entries l) i ≡ due_after (entries l) i)
    × (right (entries l) n ≡ false)
unfolding start due_after right
first-that-differs l n e =
    let r = is_read l e tt in
    let d = differs-first (entries l) start n (valid l) r.found in
    let z : n ≡ d.at = omega (arith, d.is) in
    (omega (arith, d.among), λ i h. d.before i (omega arith), subst (λ i. right (entries l) i ≡ false) (sym z) d.wrong)

-- where there is none, each call has them
pub none-differs : (l : List ℕ) → checked l ≡ None → (i : ℕ) → i ≤ length (calls_in (entries l)) → right (entries l) i ≡ true
unfolding start due_after right first_unknown
none-differs l e =
    let r = is_read l e tt in
    none_right (entries l) start 0 (valid l) r.found r.known

not-less : (a b : ℕ) → (a < b → ⊥) → b ≤ a
not-less a b f = ltb-false a b (failed (ltb a b) (λ e. f (ltb-true a b e)))

-- and so the number is the only one that can be named
pub named-exactly : (l : List ℕ) (n : ℕ) → length l ≤ longest → first_unknown l ≡ None
    → n ≤ length (calls_in (entries l)) → ((i : ℕ) → i < n → right (entries l) i ≡ true) → right (entries l) n ≡ false
    → checked l ≡ Some (Differs n)
unfolding right
named-exactly l n h u among before wrong = go (checked l) refl
  where
    go : (f : Option Finding) → checked l ≡ f → f ≡ Some (Differs n)
    go (Some Longer) e = absurd (omega (arith, is-long l e))
    go (Some (Unknown i)) e = let f = (is-unknown l e).1 in absurd (let y : ◌≡◌ {A = ℕ} 0 1 = cc in omega arith)
    go (Some (Differs k)) e =
        let d = first-that-differs l k e in
        let a = not-less k n (λ h. clash (right (entries l) k) (before k h) d.2) in
        let b = not-less n k
        (λ h. clash (right (entries l) n) (ap (right_by (entries l) n (wrote_after (entries l) n)) (sym (d.1 n h))
        ∙ right-itself (entries l) n _) wrong) in
        ap (λ x. Some (Differs x)) (omega arith)
    go None e = absurd (clash (right (entries l) n) (none-differs l e n among) wrong)

-- ## "house number 15 for a longer recording; then 14 for an unknown mark anywhere, with its place; both before any finding"

pub fifteen-exactly : (l : List ℕ) → (checked l ≡ Some Longer → longest < length l) × (longest < length l → checked l ≡ Some Longer)
fifteen-exactly l = (is-long l, long-is l)

pub fourteen-exactly : (l : List ℕ) (i : ℕ) → (checked l ≡ Some (Unknown i) → Strange l i) × (Strange l i → checked l ≡ Some (Unknown i))
fourteen-exactly l i = (unknown-strange l, strange-unknown l)
