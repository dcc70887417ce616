-- What the page's promise says: it determines all rows; of sixteen, each is that of its place, and they are the rows of a splicer whose
-- list
-- the words show; of another number, every row is as it was. Assumes nothing.
use mathlib.Core.Path.{◌≡◌, refl, sym, ap, ◌∙◌}
use mathlib.Core.Bool.{Bool, true, false}
use mathlib.Core.List.{List, map}
use Prim.Native.Nat.{ℕ, zero, suc, ◌+◌, ◌%◌, ◌≤◌, ◌<◌}
use native.Mathlib.Omega.{arith}
use lib.Dec.{eqb}
use lib.ListN.{length, set, get_or, length-set}
use lib.Seq.{get_or-set_same, get_or-set_other, ext_get_or}
use borrow.Author.Tests.{eqb-true, eqb-false, eq-eqb, ne_eqb}
use Rattle.rules.specs.declared.Past.{Past}
use Rattle.rules.specs.declared.Refusal.TheVariants.{NotSixteen}
use Rattle.rules.specs.State.{Lately}
use Rattle.rules.specs.Recent.{most_kept, recent_at, recent_from, recent}
use Rattle.rules.specs.HouseNumbers.{house_number}
use Rattle.rules.specs.Follows.Sound.{Noted}
use Rattle.rows.specs.declared.Row.{Row}
use Rattle.rows.specs.Rows.{rows, unused_row, row_in, row_at, sixteen, page_number, filled, Pages}
use Rattle.rows.specs.Rows.{row_of, rows_of}

-- ## The promise

-- "any two results it allows are proved equal", row by row
pub page-same : (e : List ℕ) (lent : List Row) {r s : ℕ} {a b : List Row} → Pages e lent r a → Pages e lent s b → (r ≡ s) × (a ≡ b)
page-same e lent p q = (p.number ∙ sym q.number, p.rows ∙ sym q.rows)

-- "house number 16 for other than sixteen rows": none is filled
pub page-refused : (e : List ℕ) (lent : List Row) {r : ℕ} {a : List Row} → (length lent ≡ rows → ⊥) → Pages e lent r a →
    (r ≡ house_number NotSixteen) × (a ≡ lent)
unfolding filled page_number
page-refused e lent n p =
    let b = ne_eqb (length lent) rows n in
    let k : sixteen (length lent) ≡ 0 = rw b in
    let l : page_number (length lent) ≡ house_number NotSixteen = rw b in
    (p.number ∙ l, p.rows ∙ ap (λ (m : ℕ). filled m (row_at e) lent) k)

pub length-filled : (n : ℕ) (f : ℕ → Row) (l : List Row) → length (filled n f l) ≡ length l
unfolding filled
length-filled zero f l = refl
length-filled (suc n) f l = length-set (filled n f l) n (f n) ∙ length-filled n f l

filled_at : (n : ℕ) (f : ℕ → Row) (l : List Row) (i : ℕ) (d : Row) → i < n → n ≤ length l → get_or (filled n f l) i d ≡ f i
unfolding filled
filled_at zero f l i d h k = absurd (omega arith)
filled_at (suc n) f l i d h k = go (eqb i n) refl (λ m. filled_at n f l i d m (omega arith))
  where
    go : (b : Bool) → eqb i n ≡ b → (i < n → get_or (filled n f l) i d ≡ f i) → get_or (set (filled n f l) n (f n)) i d ≡ f i
    go true e ih =
        let x : i ≡ n = eqb-true i n e in
        ap (λ (j : ℕ). get_or (set (filled n f l) n (f n)) j d) x ∙ get_or-set_same (filled n f l) n (f n) d
        (omega (arith, length-filled n f l)) ∙ ap f (sym x)
    go false e ih = let x = eqb-false i n e in get_or-set_other (filled n f l) n i (f n) d x ∙ ih (omega (arith, x))

-- of sixteen, all: each is that of its place
pub page-filled : (e : List ℕ) (lent : List Row) {r : ℕ} {a : List Row} → length lent ≡ rows → Pages e lent r a →
    (r ≡ 0) × (length a ≡ rows) × ((i : ℕ) → i < rows → get_or a i unused_row ≡ row_at e i)
unfolding page_number
page-filled e lent h p =
    let b = eq-eqb (length lent) rows h in
    let k : sixteen (length lent) ≡ rows = rw b in
    let l : page_number (length lent) ≡ 0 = rw b in
    let f = p.rows ∙ ap (λ (m : ℕ). filled m (row_at e) lent) k in (
      p.number ∙ l,
      ap length f ∙ length-filled rows (row_at e) lent ∙ h,
      λ i l. ap (λ (x : List Row). get_or x i unused_row) f ∙ filled_at rows (row_at e) lent i unused_row l (omega arith),
    )

-- the number says which of the two it was: 0 of sixteen rows alone, and of all others 16
pub sixteen-exactly : (e : List ℕ) (lent : List Row) {r : ℕ} {a : List Row} → Pages e lent r a →
    (r ≡ 0 → length lent ≡ rows) × (r ≡ house_number NotSixteen → length lent ≡ rows → ⊥)
unfolding house_number
sixteen-exactly e lent {r} p = (go (eqb (length lent) rows) refl, λ s h. omega (arith, (page-filled e lent h p).0, s))
  where
    go : (b : Bool) → eqb (length lent) rows ≡ b → r ≡ 0 → length lent ≡ rows
    go true t z = eqb-true (length lent) rows t
    go false t z = absurd (omega (arith, (page-refused e lent (eqb-false (length lent) rows t) p).0, z))

-- ## The rows of a splicer

length-recent : (i n : ℕ) (l : Lately) → length (map row_of (recent_from i n l)) ≡ n
unfolding recent_from
length-recent i zero l = refl
length-recent i (suc n) l = ap suc (length-recent (suc i) n l)

recent-row : (i n j : ℕ) (l : Lately) → j < n → get_or (map row_of (recent_from i n l)) j unused_row ≡ row_of (recent_at (i + j) l)
unfolding recent_from
recent-row i zero j l h = absurd (omega arith)
recent-row i (suc n) zero l h = let e : i ≡ i + 0 = omega arith in ap (λ (k : ℕ). row_of (recent_at k l)) e
recent-row i (suc n) (suc j) l h = let e : suc i + j ≡ i + suc j = omega arith in
    recent-row (suc i) n j l (omega arith) ∙ ap (λ (k : ℕ). row_of (recent_at k l)) e

-- if each row of the words is that of the list's place
pub page-rows : (e : List ℕ) (l : Lately) (lent : List Row) {r : ℕ} {a : List Row}
    → ((i : ℕ) → i < rows → row_at e i ≡ row_of (recent_at i l)) →
    length lent ≡ rows → Pages e lent r a → a ≡ rows_of l
unfolding recent
page-rows e l lent {r} {a} f h p =
    let q = page-filled e lent h p in
    ext_get_or unused_row a (rows_of l) (q.1 ∙ sym (length-recent 0 most_kept l))
    (λ i k. let j : i < rows = omega (arith, q.1) in let o : 0 + i ≡ i = omega arith in
    q.2 i j ∙ f i j ∙ sym (recent-row 0 most_kept i l j ∙ ap (λ (n : ℕ). row_of (recent_at n l)) o))

-- the row of one that ended, each of its numbers as narrow as a row's
pub narrow-row : (x : Past) → Noted x → row_in x ≡ row_of x
unfolding row_in
narrow-row x n = go (eqb x.result 0) refl
  where
    m0 : x.conn % 4294967296 ≡ x.conn
    m0 = omega (arith, n.conn)

    m1 : x.id % 4294967296 ≡ x.id
    m1 = omega (arith, n.id)

    m2 : x.event % 4294967296 ≡ x.event
    m2 = omega (arith, n.event)

    m3 : x.result % 4294967296 ≡ x.result
    m3 = omega (arith, n.result)

    m4 : x.played % 4294967296 ≡ x.played
    m4 = omega (arith, n.played)

    go : (t : Bool) → eqb x.result 0 ≡ t → row_in x ≡ row_of x
    go true h = rw h
    go false h = rw h (λ j. record { kept = 1; connection = m0 j; session = m1 j; event = m2 j; result = m3 j; played = m4 j })
