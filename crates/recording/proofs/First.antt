-- What a finding says of any recording: none, that every call has its due records; a number, that it is the first call that has not.
-- Rests on proofs/Judging: the pass one entry at a time.
use mathlib.Core.Path.{◌≡◌, refl, sym, ap, ◌∙◌}
use mathlib.Core.Bool.{Bool, true, false, cond, ◌&&◌}
use mathlib.Core.Logic.{⊎_elim}
use mathlib.Core.List.{List, [], ◌∷◌, ◌++◌, map, append_assoc, append-nil}
use Prim.Native.Nat.{ℕ, zero, suc, ◌+◌, ◌≤◌, ◌<◌}
use native.Mathlib.Omega.{arith}
use lib.Dec.{eqb}
use lib.ListN.{length, get_or, take, drop, length-append}
use lib.Seq.{take-append-add}
use borrow.Author.Tests.{eqb-true, eqb-false, eq-eqb, ne_eqb}
use Rattle.std.specs.Prelude.{Some, None}
use Rattle.rules.specs.Lists.{same}
use Rattle.rules.specs.State.{Splicer}
use Rattle.rules.specs.Calls.{Call, call}
use Rattle.rules.specs.Follows.Sequences.{answers}
use Rattle.rules.specs.Card.{told}
use Rattle.rules.proofs.All.{All}
use Rattle.rules.proofs.Bytes.{same_self, same_true}
use Rattle.rules.proofs.Tests.{by, clash, failed, eqb_same}
use Rattle.recording.specs.declared.Entry.TheVariants.{Made}
use Rattle.recording.specs.declared.Finding.TheVariants.{Differs}
use Rattle.recording.specs.Recording.{Item, made, wrote, cut, another, Bench, called, taken, begins, is_nothing, judged, unknown_from}
use Rattle.recording.specs.Recorded.{ends_cut, calls_in, wrote_after, due_from, right_by}
use Rattle.recording.proofs.Entries.{Whole, Valid}
use Rattle.recording.proofs.Passing.{begins-itself}
use Rattle.recording.proofs.Judging.{makes, choice-none, choice-differs, nothing_is, begins-split}

-- ## Written and due

same_more : (w v d : List ℕ) → same (w ++ v) (w ++ d) ≡ same v d
same_more [] v d = refl
same_more (x ∷ w) v d = ap (λ b. b && same (w ++ v) (w ++ d)) (eqb_same x) ∙ same_more w v d

begins-more : (w v d : List ℕ) → begins (w ++ v) (w ++ d) ≡ begins v d
unfolding begins
begins-more w v d = rw (length-append w v, take-append-add w d (length v)) (same_more w v (take (length v) d))

-- the same records in front of both
right-more : (es : List Item) (i : ℕ) (w v d : List ℕ) → right_by es i (w ++ v) (w ++ d) ≡ right_by es i v d
unfolding right_by
right-more es i w v d = rw (same_more w v d, begins-more w v d)

begins-self : (v : List ℕ) → begins v v ≡ true
begins-self v = ap (begins v) (sym (append-nil v)) ∙ begins-itself v []

pub right-itself : (es : List Item) (i : ℕ) (v : List ℕ) → right_by es i v v ≡ true
unfolding right_by
right-itself es i v =
    by (λ b. b ≡ true) (ends_cut es && eqb i (length (calls_in es))) _ _ (λ e. begins-self v) (λ e. same_self v)

-- what does not begin so is no beginning with more
wrong-more : (es : List Item) (i : ℕ) (w v d : List ℕ) → begins w d ≡ false → right_by es i (w ++ v) d ≡ false
unfolding right_by
wrong-more es i w v d e =
    let no : (m : List ℕ) → w ++ m ≡ d → ⊥ = λ m f. clash (begins w d) (ap (begins w) (sym f) ∙ begins-itself w m) e in
    by (λ b. b ≡ false) (ends_cut es && eqb i (length (calls_in es))) _ _
    (λ z. failed (begins (w ++ v) d) (λ f. no _ (sym (append_assoc w v (drop (length (w ++ v)) d)) ∙ begins-split (w ++ v) d f)))
    (λ z. failed (same (w ++ v) d) (λ f. no v (same_true (w ++ v) d f)))

wrong-nothing : (d : List ℕ) → is_nothing d ≡ false → same [] d ≡ false
unfolding is_nothing
wrong-nothing [] e = absurd (clash true refl e)
wrong-nothing (x ∷ d) e = refl

-- ## One entry in front

eqb-next : (i n : ℕ) → eqb (suc i) (suc n) ≡ eqb i n
eqb-next i n = go (eqb i n) refl
  where
    go : (b : Bool) → eqb i n ≡ b → eqb (suc i) (suc n) ≡ b
    go true e = eq-eqb (suc i) (suc n) (omega (arith, eqb-true i n e))
    go false e = ne_eqb (suc i) (suc n) (λ z. eqb-false i n e (omega arith))

neither : (b : Bool) → (b && false) ≡ false
neither true = refl
neither false = refl

-- the call's entry e of c, made from the splicer s on
module _ (s : Splicer) (c : List ℕ) (e : Whole Made c) (es : List Item) where
  abbrev one : Call
  one = (makes c e).call

  calls-made : calls_in (made c ∷ es) ≡ one ∷ calls_in es
  unfolding calls_in
  calls-made = ap (λ ks. ks ++ calls_in es) (makes c e).only

  due-made : (d : List ℕ) (i : ℕ) → due_from d s (made c ∷ es) (suc i) ≡ due_from (told (call one s).answer) (call one s).splicer es i
  unfolding due_from answers
  due-made d i = ap (λ ks. get_or (map told (answers ks s)) i []) calls-made

  right-made : (i : ℕ) (v d : List ℕ) → right_by (made c ∷ es) (suc i) v d ≡ right_by es i v d
  unfolding right_by ends_cut
  right-made i v d =
      ap (λ b. cond (ends_cut es && b) (begins v d) (same v d))
      (ap (λ ks. eqb (suc i) (length ks)) calls-made ∙ eqb-next i (length (calls_in es)))

  wrong-made : (d : List ℕ) → is_nothing d ≡ false → right_by (made c ∷ es) 0 [] d ≡ false
  unfolding right_by ends_cut
  wrong-made d f =
      let n : eqb 0 (length (calls_in (made c ∷ es))) ≡ false =
      ap (λ ks. eqb 0 (length ks)) calls-made ∙ ne_eqb 0 (suc (length (calls_in es))) (λ z. omega arith) in
      rw (n, neither (ends_cut es)) (wrong-nothing d f)

-- the record w, and then d is still due
module _ (s : Splicer) (w d : List ℕ) (es : List Item) where
  same-wrote : (i : ℕ) → wrote_after es i ≡ due_from d s es i → wrote_after (wrote w ∷ es) i ≡ due_from (w ++ d) s (wrote w ∷ es) i
  unfolding wrote_after due_from calls_in
  same-wrote zero f = ap (λ x. w ++ x) f
  same-wrote (suc i) f = f

  right-wrote : (i : ℕ) → right_by (wrote w ∷ es) i (wrote_after (wrote w ∷ es) i) (due_from (w ++ d) s (wrote w ∷ es) i)
      ≡ right_by es i (wrote_after es i) (due_from d s es i)
  unfolding wrote_after due_from calls_in right_by ends_cut
  right-wrote zero = right-more es 0 w (wrote_after es 0) d
  right-wrote (suc i) = refl

-- ## All entries

-- whether the records of call i are its due ones, from what is known between two entries on
abbrev right_at : Bench → List Item → ℕ → Bool
right_at g es i = right_by es i (wrote_after es i) (due_from g.due g.splicer es i)

made-step : (g : Bench) (c : List ℕ) (e : Whole Made c) (es : List Item) (i : ℕ)
    → right_at g (made c ∷ es) (suc i) ≡ right_at (called (makes c e).call g) es i
unfolding wrote_after called
made-step g c e es i =
    ap (right_by (made c ∷ es) (suc i) (wrote_after es i)) (due-made g.splicer c e es g.due i)
    ∙ right-made g.splicer c e es i (wrote_after es i) _

wrote-step : (g : Bench) (w : List ℕ) (es : List Item) (i : ℕ) → begins w g.due ≡ true
    → right_at g (wrote w ∷ es) i ≡ right_at (taken (length w) g) es i
unfolding taken
wrote-step g w es i e =
    ap (λ d. right_by (wrote w ∷ es) i (wrote_after (wrote w ∷ es) i) (due_from d g.splicer (wrote w ∷ es) i))
    (sym (begins-split w g.due e))
    ∙ right-wrote g.splicer w (drop (length w) g.due) es i

pub none_right : (es : List Item) (g : Bench) (j : ℕ) → All Valid es → judged g es ≡ None → unknown_from j es ≡ None
    → (i : ℕ) → i ≤ length (calls_in es) → right_at g es i ≡ true
unfolding judged unknown_from wrote_after calls_in due_from right_by ends_cut begins
none_right [] g j v f u zero h =
    let d = choice-none (is_nothing g.due) None g.number f in
    ap (right_by [] 0 []) (sym (nothing_is g.due d.0)) ∙ right-itself [] 0 []
none_right [] g j v f u (suc i) h = absurd (omega arith)
none_right (made c ∷ es) g j v f u zero h =
    let d = choice-none (is_nothing g.due) _ g.number f in
    ap (right_by (made c ∷ es) 0 []) (sym (nothing_is g.due d.0)) ∙ right-itself (made c ∷ es) 0 []
none_right (made c ∷ es) g j v f u (suc i) h =
    let d = choice-none (is_nothing g.due) _ g.number f in
    let x = makes c v.0 in
    made-step g c v.0 es i
    ∙ none_right es (called x.call g) (j + length c) v.1 (ap (λ y. judged y es) (sym (x.does g)) ∙ d.1) u i
    (omega (arith, ap length (calls-made g.splicer c v.0 es)))
none_right (wrote w ∷ es) g j v f u i h =
    let d = choice-none (begins w g.due) _ g.number f in
    wrote-step g w es i d.0 ∙ none_right es (taken (length w) g) (j + length w) v.1 d.1 u i h
none_right (cut l ∷ es) g j v f u zero h = refl
none_right (cut l ∷ es) g j v f u (suc i) h = absurd (omega arith)
none_right (another l ∷ es) g j v f u i h = absurd (let y : ◌≡◌ {A = ℕ} 0 1 = cc in omega arith)

-- call `at` behind what is known in g is the first of es whose records are not its due ones
pub record Names (es : List Item) (g : Bench) (k : ℕ) : Type 0 where
  pub at : ℕ
  pub is : k ≡ g.number + at
  pub among : at ≤ length (calls_in es)
  pub before : (i : ℕ) → i < at → wrote_after es i ≡ due_from g.due g.splicer es i
  pub wrong : right_at g es at ≡ false

names-now : (es : List Item) (g : Bench) (k : ℕ) → right_at g es 0 ≡ false → k ≡ g.number → Names es g k
names-now es g k w e = record { at = 0; is = omega arith; among = omega arith; before = λ i h. absurd (omega arith); wrong = w }

names-made : (c : List ℕ) (es : List Item) (g : Bench) (k : ℕ) (e : Whole Made c) → is_nothing g.due ≡ true
    → Names es (called (makes c e).call g) k → Names (made c ∷ es) g k
unfolding called wrote_after due_from
names-made c es g k e d n =
    record {
      at = suc n.at;
      is = omega (arith, n.is);
      among = omega (arith, n.among, ap length (calls-made g.splicer c e es));
      before = go;
      wrong = made-step g c e es n.at ∙ n.wrong;
    }
  where
    go : (i : ℕ) → i < suc n.at → wrote_after (made c ∷ es) i ≡ due_from g.due g.splicer (made c ∷ es) i
    go zero h = nothing_is g.due d
    go (suc i) h = n.before i (omega arith) ∙ sym (due-made g.splicer c e es g.due i)

names-wrote : (w : List ℕ) (es : List Item) (g : Bench) (k : ℕ) → begins w g.due ≡ true
    → Names es (taken (length w) g) k → Names (wrote w ∷ es) g k
unfolding taken calls_in
names-wrote w es g k b n =
    record {
      at = n.at;
      is = n.is;
      among = n.among;
      before = λ i h. same-wrote g.splicer w (drop (length w) g.due) es i (n.before i h)
          ∙ ap (λ d. due_from d g.splicer (wrote w ∷ es) i) (begins-split w g.due b);
      wrong = wrote-step g w es n.at b ∙ n.wrong;
    }

pub differs-first : (es : List Item) (g : Bench) (k : ℕ) → All Valid es → judged g es ≡ Some (Differs k) → Names es g k
unfolding judged wrote_after due_from right_by ends_cut
differs-first [] g k v f =
    ⊎_elim (λ x. absurd (let e = x.1 in let y : ◌≡◌ {A = ℕ} 0 1 = cc in omega arith))
    (λ x. names-now [] g k (wrong-nothing g.due x.0) x.1) (choice-differs (is_nothing g.due) None g.number k f)
differs-first (made c ∷ es) g k v f =
    let m = makes c v.0 in
    ⊎_elim
    (λ x. names-made c es g k v.0 x.0
    (differs-first es (called m.call g) k v.1 (ap (λ y. judged y es) (sym (m.does g)) ∙ x.1)))
    (λ x. names-now (made c ∷ es) g k (wrong-made g.splicer c v.0 es g.due x.0) x.1)
    (choice-differs (is_nothing g.due) _ g.number k f)
differs-first (wrote w ∷ es) g k v f =
    ⊎_elim (λ x. names-wrote w es g k x.0 (differs-first es (taken (length w) g) k v.1 x.1))
    (λ x. names-now (wrote w ∷ es) g k (wrong-more (wrote w ∷ es) 0 w (wrote_after es 0) g.due x.0) x.1)
    (choice-differs (begins w g.due) _ g.number k f)
differs-first (cut l ∷ es) g k v f = absurd (let y : ◌≡◌ {A = ℕ} 0 1 = cc in omega arith)
differs-first (another l ∷ es) g k v f = absurd (let y : ◌≡◌ {A = ℕ} 0 1 = cc in omega arith)
