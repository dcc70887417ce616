-- What a call of the engine and the refusal behind it give is the record played.
-- Rests on: the engine's answer is the definition's, so a refusal wrote nothing before its mark.
use mathlib.Core.Path.{◌≡◌, refl, sym, subst, ap, ◌∙◌}
use mathlib.Core.Bool.{Bool, true, false}
use mathlib.Core.List.{List, [], ◌∷◌, ◌++◌, append-nil}
use Prim.Native.Nat.{ℕ, ◌+◌, ◌-◌, ◌≤◌}
use native.Mathlib.Omega.{arith}
use lib.ListN.{length, drop}
use Rattle.rules.specs.declared.Refusal.{Refusal}
use Rattle.rules.specs.Bytes.{part, written}
use Rattle.rules.specs.State.{Splicer, is_open, link_of}
use Rattle.rules.specs.Records.{output}
use Rattle.rules.specs.HouseNumbers.{house_number, Called, refused, good, buffer_after, written_by, no_connection}
use Rattle.rules.specs.Calls.{Call, messages, call, open_call}
use Rattle.rules.specs.HouseNumbers as numbers
use Rattle.rules.specs.Card.{message_end, Next, calls, ends, stops, card_room, card_loans, next, told, card_step}
use Rattle.rules.proofs.Tests.{by, clash}
use Rattle.rules.proofs.Written.{written_none}
use Rattle.memory.specs.Memory.{see, shown}
use Rattle.memory.proofs.Laws.{memory-same}
use Rattle.std.specs.Prelude.{Err}
use Rattle.engine.specs.Lent.{Lent, Answer, answer_of, Answers}
use Rattle.feed.specs.declared.Record.{Record}
use Rattle.feed.specs.declared.Record.TheVariants.{Open, Close, Message, Oversize, Tick, Cut, Unknown}
use Rattle.feed.specs.declared.Played.{Played}
use Rattle.feed.specs.Feed.{record_in, next_of, used_by, is_cut, behind, rest}
use Rattle.feed.specs.Play.{Step, goes_on, made_by, step_by, step_of, Plays, untold, told_length, Tells, Ended}
use Rattle.feed.proofs.Laws.{next-record}
use Rattle.feed.proofs.Runs.{within, ahead}

-- ## Behind a call

pub tells-refused : {a : Answer} {n : Refusal} (e : List ℕ) (x : ℕ) → a ≡ Err n → x ≡ house_number n → 2 ≤ length e
    → Tells a e 2 (0x45 ∷ x ∷ drop 2 e)
unfolding untold told told_length written
tells-refused {a} {n} e x f g h = record { count = rw f; bytes = rw (f, g) }

-- e: the buffer before the call, o: after it, p: with the refusal's mark
tells-bytes : (a : numbers.Answer) (k : ℕ) (e o p : List ℕ) → o ≡ buffer_after a e → p ≡ written o 0 (untold (answer_of a k))
    → p ≡ written e 0 (told a)
unfolding buffer_after written_by answer_of untold told
tells-bytes (refused n) k e o p f g = g ∙ ap (λ y. written y 0 (told (refused n))) (f ∙ written_none e 0)
tells-bytes (good consumed rs) k e o p f g = g ∙ written_none o 0 ∙ f

tells-count : (a : numbers.Answer) (k : ℕ) → told_length (answer_of a k) ≡ length (told a)
unfolding written_by answer_of told_length told
tells-count (refused n) k = refl
tells-count (good consumed rs) k = refl

-- e: the buffer that the call was lent; o: the whole one after it; d: before it
pub ended-plays : {c : Called} {at : ℕ} {e : List ℕ} {a : Answer} {m b i : List ℕ} → Answers c at e a m b i
    → {d o : List ℕ} → o ≡ buffer_after c.answer d → {n : ℕ} {t : Bool} {r : Played} {p : List ℕ} → Ended a n t o r p
    → Plays at d (record { splicer = c.splicer; accepted = c.accepted; shows = told c.answer; used = n; more = t }) r m b p
ended-plays {c} a {d} {o} f {p = p} g =
    record {
      lent = a.lent;
      splicer = a.splicer;
      ring = a.ring;
      used = g.used;
      count = g.tells.count ∙ ap told_length a.answer ∙ tells-count c.answer c.moved;
      more = g.more;
      bytes = tells-bytes c.answer c.moved d o p f (g.tells.bytes ∙ ap (λ y. written o 0 (untold y)) a.answer);
    }

-- open writes nothing
pub open-silent : (c : ℕ) (s : Splicer) (e : List ℕ) → e ≡ buffer_after (open_call c s).answer e
unfolding open_call buffer_after written_by output
open-silent c s e =
    let P : Called → Type 0 = λ x. e ≡ buffer_after x.answer e in
    let z : e ≡ written e 0 [] = sym (written_none e 0) in
    by P (no_connection c) _ _ (λ t. z) (λ t. by P (is_open (link_of c s)) _ _ (λ u. z) (λ u. z))

-- a call with the whole buffer lent
pub made-plays : (f : ℕ → Call) (s : Splicer) {e : List ℕ} → length e ≡ card_room
    → {at : ℕ} {a : Answer} {m b o : List ℕ} → Answers (call (f (length e)) s) at e a m b o
    → {n : ℕ} {t : Bool} {r : Played} {p : List ℕ} → Ended a n t o r p
    → Plays at e (made_by n t (f card_room) s) r m b p
made-plays f s {e} h {at = at} {m = m} {b = b} a {n} {t} {r} {p} d =
    subst (λ i. Plays at e (made_by n t (f i) s) r m b p) h (ended-plays a a.buffer d)

-- ## A record and its step

-- what the record x of l gives
abbrev pub step_in : Record → List ℕ → Splicer → Step
step_in x l s = step_by (used_by x) (is_cut x) (next_of x l) s

step-record : (l : List ℕ) (s : Splicer) → step_in (record_in l) l s ≡ step_of l s
unfolding step_of
step-record l s = ap (λ x. step_by (used_by (record_in l)) (is_cut (record_in l)) x s) (sym (next-record l))

-- x: what the record was found to be
pub plays-as : {k x : Record} (l : List ℕ) (s : Splicer) {at : ℕ} {r : Played} {e m b p : List ℕ} → k ≡ record_in l → k ≡ x
    → Plays at e (step_in x l s) r m b p → Plays at e (step_of l s) r m b p
plays-as {k} {x} l s {at} {r} {e} {m} {b} {p} f g d =
    subst (λ y. Plays at e y r m b p) (ap (λ y. step_in y l s) (sym g ∙ f) ∙ step-record l s) d

pub message-plays : (c size : ℕ) (l : List ℕ) (s : Splicer) {at : ℕ} {r : Played} {e m b p : List ℕ}
    → Plays at e (made_by (message_end size) true (messages c (part 2 (message_end size - 2) l) card_loans) s) r m b p
    → Plays at e (step_in (Message c size) l s) r m b p
unfolding step_by used_by is_cut next_of
message-plays c size l s {at} {r} {e} {m} {b} {p} d =
    let i : message_end size - 2 ≡ 8 + size = omega arith in
    subst (λ z. Plays at e (made_by (message_end size) true (messages c (part 2 z l) card_loans) s) r m b p) i d

pub used-within : {k x : Record} (l : List ℕ) → k ≡ record_in l → k ≡ x → used_by x ≤ length l
used-within l f g = subst (λ y. used_by y ≤ length l) (sym f ∙ g) (within l)

pub stopped-plays : (t : Bool) (m b e : List ℕ) → Lent m b
    → Plays (see m).ring_end e (record { splicer = shown m b; accepted = false; shows = []; used = 0; more = t })
    (record { used = 0; len = 0; more = t }) m b e
stopped-plays t m b e l =
    record { lent = l; splicer = refl; ring = refl; used = refl; count = refl; more = refl; bytes = sym (written_none e 0) }

played-same : (a b c d : ℕ) (t u : Bool) → a ≡ b → c ≡ d → t ≡ u
    → ◌≡◌ {A = Played} (record { used = a; len = c; more = t }) (record { used = b; len = d; more = u })
played-same a b c d t u p q r = cc

-- any two results that the promise allows are equal
pub plays-same : (g : Step) (at : ℕ) (r q : Played) (m b n c e o p : List ℕ) → Plays at e g r m b o → Plays at e g q n c p
    → (r ≡ q) × (m ≡ n) × (b ≡ c) × (o ≡ p)
plays-same g at r q m b n c e o p x y =
    let same = memory-same m b n c x.lent.whole y.lent.whole (x.ring ∙ sym y.ring) (x.splicer ∙ sym y.splicer) in (
      played-same _ _ _ _ _ _ (x.used ∙ sym y.used) (x.count ∙ sym y.count) (x.more ∙ sym y.more),
      same.0,
      same.1,
      x.bytes ∙ sym y.bytes,
    )

-- ## One step of the whole run

used-by : (n : ℕ) (t : Bool) (x : Next) (s : Splicer) → (step_by n t x s).used ≡ n
unfolding step_by
used-by n t (calls k left) s = refl
used-by n t (ends k) s = refl
used-by n t stops s = refl

pub step-within : (l : List ℕ) (s : Splicer) → (step_of l s).used ≤ length l
unfolding step_of
step-within l s = rw (used-by (used_by (record_in l)) (is_cut (record_in l)) (next l) s) (within l)

-- only before a cut record is nothing taken and more awaited
pub step-stuck : (l : List ℕ) (s : Splicer) → (step_of l s).used ≡ 0 → (step_of l s).more ≡ true → record_in l ≡ Cut
unfolding used_by is_cut next_of step_by
step-stuck l s e f =
    let same = step-record l s in
    go (record_in l) (ap (λ g. g.used) same ∙ e) (ap (λ g. g.more) same ∙ f)
  where
    go : (x : Record) → (step_in x l s).used ≡ 0 → (step_in x l s).more ≡ true → x ≡ Cut
    go (Open c) e f = absurd (omega arith)
    go (Close c) e f = absurd (omega arith)
    go (Message c size) e f = absurd (omega arith)
    go (Oversize c) e f = absurd (omega arith)
    go (Tick t u) e f = absurd (omega arith)
    go Cut e f = refl
    go Unknown e f = absurd (clash false f refl)

step-in-rest : (x : Record) (l m : List ℕ) (s : Splicer)
    → (is_cut x ≡ false → rest s (l ++ m) ≡ card_step rest (behind m (next_of x l)) s)
    → rest s (l ++ m) ≡ goes_on (step_in x l s) l m
unfolding card_step behind next_of used_by is_cut step_by goes_on
step-in-rest (Open c) l m s h = h refl
step-in-rest (Close c) l m s h = h refl
step-in-rest (Message c size) l m s h = h refl
step-in-rest (Oversize c) l m s h = h refl ∙ sym (append-nil _)
step-in-rest (Tick t u) l m s h = h refl
step-in-rest Cut l m s h = refl
step-in-rest Unknown l m s h = h refl

-- whatever comes behind l: what is written for its first record, and then what is written for the rest
pub step-rest : (l m : List ℕ) (s : Splicer) → rest s (l ++ m) ≡ goes_on (step_of l s) l m
step-rest l m s =
    step-in-rest (record_in l) l m s (λ z. ahead s l m z ∙ ap (λ y. card_step rest (behind m y) s) (next-record l))
    ∙ ap (λ g. goes_on g l m) (step-record l s)
