-- Those that leave one by one, a step at a time: more steps than there are change nothing. Assumes nothing.
use mathlib.Core.Path.{◌≡◌, refl, sym, ap, fun_ext, ◌∙◌}
use mathlib.Core.Bool.{Bool, true, false, cond, not, ◌&&◌, ◌||◌}
use mathlib.Core.List.{List, [], ◌∷◌, append_assoc}
use Prim.Native.Nat.{ℕ, zero, suc, ◌≤◌, ◌<◌}
use native.Mathlib.Omega.{arith}
use lib.Dec.{leb, ltb}
use lib.ListN.{length, get_or, length-set}
use borrow.Author.Tests.{ltb-true, ltb-false, lt-ltb, le-ltb, leb-true, leb-false}
use Rattle.std.specs.declared.option.Option.{Option}
use Rattle.std.specs.declared.option.Option.TheVariants.{Some, None}
use Rattle.rules.specs.declared.Session.{Session}
use Rattle.rules.specs.declared.Ending.{Ending}
use Rattle.rules.specs.Lists.{bit, some, count}
use Rattle.rules.proofs.Tests.{clash, and_both, both-and}
use Rattle.rules.proofs.Count.{place-holds, count≤length, some-none}
use Rattle.recall_rules.specs.declared.Phase.{Phase}
use Rattle.recall_rules.specs.declared.Phase.TheVariants.{Ended}
use Rattle.recall_rules.specs.declared.Verdict.{Verdict}
use Rattle.recall_rules.specs.Verdicts.{is_waiting, has_started, none, verdict, standing, stands, which, session_of, as_ended, over, first}
use Rattle.recall_rules.specs.Work.{Turn, quiet, writes, and_then, leaving, higher, started_ones, airs, on_air}
use Rattle.recall_rules.specs.Work.{as_was, endings}
use Rattle.recall_rows.specs.declared.Order.TheVariants.{Highest}
use Rattle.recall_rows.specs.Scans.{place_in}
use Rattle.recall_rules.proofs.Found.{length-standing, count_set, counted-at}
use Rattle.recall_rows.proofs.Scans.{found, missing}
use Rattle.recall_rows.proofs.Best.{strict, none_found}
use Rattle.recall_ends.specs.Does.{all, one_over, Top, by_access, started_end}

-- one piece of work after another, and a third
pub then-then : (t : Turn) (f g : List Verdict → Turn) → and_then (and_then t f) g ≡ and_then t (λ l. and_then (f l) g)
unfolding and_then
then-then t f g =
    ap (λ r. record { verdicts = (g (f t.verdicts).verdicts).verdicts; written = r })
    (append_assoc t.written (f t.verdicts).written (g (f t.verdicts).verdicts).written)

module _ (h : Phase → Bool) (shut : (n r : ℕ) → h (Ended n r) ≡ false) where
  -- how many stand so
  abbrev pub many : List Verdict → ℕ
  many l = count (λ s. true) (standing h l)

  module _ (p : Session → Bool) (l : List Verdict) (k : which h p l < length l) where
    there : stands h (λ s. true) (get_or l (which h p l) none) ≡ true
    there =
        let e = and_both (h (get_or l (which h p l) none).phase) (p (session_of l (which h p l))) (place-holds (stands h p) l none k) in
        both-and (h (get_or l (which h p l) none).phase) true e.0 refl

    pub some-stand : 0 < many l
    some-stand = counted-at h (λ s. true) l (which h p l) k there

    -- one that ends no longer stands so
    pub one_fewer : (how : Ending) → suc (many (over how (which h p l) l)) ≡ many l
    one_fewer how =
        let i = which h p l in
        let e : bit (h (as_ended how (session_of l i) l) && true) ≡ 0 = rw (shut _ _) refl in
        omega (arith, count_set h (λ s. true) l i (verdict (as_ended how (session_of l i) l) (session_of l i)) k, ap bit there, e)

  module _ (before : Session → Session → Bool) (p : Session → Bool) (how : Session → Ending) where
    -- the next to leave
    abbrev pub next : List Verdict → ℕ
    next l = which h (first h before p l) l

    leaving-none : (n : ℕ) (l : List Verdict) → length l ≤ next l → leaving h before p how n l ≡ record { gone = []; left = l }
    unfolding leaving
    leaving-none zero l k = refl
    leaving-none (suc n) l k = rw (le-ltb (next l) (length l) k)

    leaving-enough : (m n : ℕ) (l : List Verdict) → many l ≤ m → many l ≤ n → leaving h before p how m l ≡ leaving h before p how n l
    unfolding leaving
    leaving-enough zero zero l f g = refl
    leaving-enough zero (suc n) l f g = none_found (ltb (next l) (length l)) refl
      where
        none_found : (b : Bool) → ltb (next l) (length l) ≡ b → leaving h before p how zero l ≡ leaving h before p how (suc n) l
        none_found true e = absurd (omega (arith, some-stand (first h before p l) l (ltb-true _ _ e)))
        none_found false e = rw e
    leaving-enough (suc m) zero l f g = none_found (ltb (next l) (length l)) refl
      where
        none_found : (b : Bool) → ltb (next l) (length l) ≡ b → leaving h before p how (suc m) l ≡ leaving h before p how zero l
        none_found true e = absurd (omega (arith, some-stand (first h before p l) l (ltb-true _ _ e)))
        none_found false e = rw e
    leaving-enough (suc m) (suc n) l f g =
        go (ltb (next l) (length l)) refl
        (λ k. let z = one_fewer (first h before p l) l k (how (session_of l (next l))) in
        leaving-enough m n (over (how (session_of l (next l))) (next l) l) (omega arith) (omega arith))
      where
        m' : List Verdict
        m' = over (how (session_of l (next l))) (next l) l

        go : (b : Bool) → ltb (next l) (length l) ≡ b → (next l < length l → leaving h before p how m m' ≡ leaving h before p how n m')
            → leaving h before p how (suc m) l ≡ leaving h before p how (suc n) l
        go true e ih = rw (ih (ltb-true (next l) (length l) e))
        go false e ih = rw e

    -- all of them, as work
    abbrev pub stage : List Verdict → Turn
    stage l = writes (endings how (leaving h before p how (length l) l)) (leaving h before p how (length l) l).left

    pub stage-none : (l : List Verdict) → length l ≤ next l → stage l ≡ quiet l
    stage-none l k = rw (leaving-none (length l) l k) refl

    pub stage-more : (l : List Verdict) → next l < length l → stage l ≡ and_then (one_over (how (session_of l (next l))) (next l) l) stage
    unfolding leaving and_then
    stage-more l k =
        let i = next l in
        let few : many l ≤ length l = omega (arith, count≤length (λ s. true) (standing h l), length-standing h l) in
        rw (
          leaving-enough (length l) (suc (length l)) l few (omega arith),
          lt-ltb i (length l) k,
          length-set l i (verdict (as_ended (how (session_of l i)) (session_of l i) l) (session_of l i)),
        ) refl

pub started-shut : (n r : ℕ) → has_started (Ended n r) ≡ false
started-shut n r = refl

pub waiting-shut : (n r : ℕ) → is_waiting (Ended n r) ≡ false
waiting-shut n r = refl

-- ## Who is on air, by AccessType

some-into : (p q : Session → Bool) → ((u : Session) → p u ≡ true → q u ≡ true) → (l : List Session) → some p l ≡ true → some q l ≡ true
some-into p q f [] e = absurd (clash false e refl)
some-into p q f (u ∷ l) e = go (p u) refl (some-into p q f l) e
  where
    last : (b : Bool) → some q l ≡ true → (b || some q l) ≡ true
    last true z = refl
    last false z = z

    go : (b : Bool) → p u ≡ b → (some p l ≡ true → some q l ≡ true) → (b || some p l) ≡ true → (q u || some q l) ≡ true
    go true g ih k = rw (f u g) refl
    go false g ih k = last (q u) (ih k)

-- of all that have started, those are on air that have the AccessType of the one found
pub airs-top : (l : List Verdict) (s : Session) → on_air l < length l → airs l s ≡ leb (session_of l (on_air l)).access s.access
airs-top l s k = go (leb top s.access) refl
  where
    i : ℕ
    i = on_air l

    top : ℕ
    top = (session_of l i).access

    is : (has_started (get_or l i none).phase ≡ true) × (airs l (session_of l i) ≡ true)
    is = and_both (has_started (get_or l i none).phase) (airs l (session_of l i)) (place-holds (stands has_started (airs l)) l none k)

    not-not : (b : Bool) → not b ≡ true → b ≡ false
    not-not true e = absurd (clash false e refl)
    not-not false e = refl

    go : (b : Bool) → leb top s.access ≡ b → not (some (λ u. higher u s) (standing has_started l)) ≡ b
    go true e = above (some (λ u. higher u s) (standing has_started l)) refl
      where
        above : (b : Bool) → some (λ u. higher u s) (standing has_started l) ≡ b → not b ≡ true
        above false f = refl
        above true f =
            absurd (clash (some (λ u. higher u (session_of l i)) (standing has_started l))
            (some-into (λ u. higher u s) (λ u. higher u (session_of l i))
            (λ u g. lt-ltb top u.access (omega (arith, ltb-true s.access u.access g, leb-true top s.access e)))
            (standing has_started l) f)
            (not-not (some (λ u. higher u (session_of l i)) (standing has_started l)) is.1))
    go false e = below (some (λ u. higher u s) (standing has_started l)) refl
      where
        below : (b : Bool) → some (λ u. higher u s) (standing has_started l) ≡ b → not b ≡ false
        below true f = refl
        below false f =
            absurd (omega (
              arith,
              some-none (λ u. higher u s) (standing has_started l) f,
              counted-at has_started (λ u. higher u s) l i k
                  (both-and (has_started (get_or l i none).phase) (higher (session_of l i) s) is.0
                  (lt-ltb s.access top (leb-false top s.access e))),
            ))

none-started : (l : List Verdict) → length l ≤ on_air l → (j : ℕ) → j < length l → stands has_started (λ s. true) (get_or l j none) ≡ false
none-started l k j y = go (stands has_started (λ s. true) (get_or l j none)) refl
  where
    go : (b : Bool) → stands has_started (λ s. true) (get_or l j none) ≡ b → b ≡ false
    go false e = refl
    go true e =
        absurd (omega (
          arith,
          counted-at has_started (λ s. true) l j y e,
          some-none (λ s. true) (standing has_started l) (none_found has_started higher (strict Highest) (λ s. true) l k),
        ))

-- the started ones leave, each by what it was: by the AccessType of the one on air
pub started-stage : (air cover : Ending) (p : Session → Bool) (l : List Verdict) (top : ℕ) → Top l top
    → started_end air cover p l ≡ stage has_started started-shut higher p (by_access top air cover) l
unfolding started_end started_ones
started-stage air cover p l top h = go (ltb (on_air l) (length l)) refl
  where
    go : (b : Bool) → ltb (on_air l) (length l) ≡ b → stage has_started started-shut higher p (as_was air cover l) l
        ≡ stage has_started started-shut higher p (by_access top air cover) l
    go true e =
        let k = ltb-true (on_air l) (length l) e in
        ap (λ (how : Session → Ending). stage has_started started-shut higher p how l)
        (fun_ext (λ s. ap (λ b. cond b air cover) (airs-top l s k ∙ ap (λ (n : ℕ). leb n s.access) (sym (h k)))))
    go false e =
        let k : length l ≤ on_air l = ltb-false (on_air l) (length l) e in
        stage-none has_started started-shut higher p (as_was air cover l) l (nobody k)
        ∙ sym (stage-none has_started started-shut higher p (by_access top air cover) l (nobody k))
      where
        -- with none on air, none has started
        nobody : length l ≤ on_air l → length l ≤ next has_started started-shut higher p (as_was air cover l) l
        nobody k = go-none (ltb (next has_started started-shut higher p (as_was air cover l) l) (length l)) refl
          where
            go-none : (b : Bool) → ltb (next has_started started-shut higher p (as_was air cover l) l) (length l) ≡ b
                → length l ≤ next has_started started-shut higher p (as_was air cover l) l
            go-none false f = ltb-false _ _ f
            go-none true f =
                let i = next has_started started-shut higher p (as_was air cover l) l in
                let y = ltb-true i (length l) f in
                let s = there has_started started-shut (first has_started higher p l) l y in
                absurd (clash (stands has_started (λ s. true) (get_or l i none)) s (none-started l k i y))

-- as code finds it
module _ (m : List ℕ) {r : Option ℕ} (f : r ≡ place_in (all m) (on_air (all m))) where
  pub top-found : {i : ℕ} {v : Verdict} → r ≡ Some i → v ≡ get_or (all m) i none → Top (all m) v.session.access
  top-found g e k = ap (λ (w : Verdict). w.session.access) e ∙ ap (λ (j : ℕ). (session_of (all m) j).access) (found (all m) f g).0

  pub top-none : {a : ℕ} → r ≡ None → Top (all m) a
  top-none g k = absurd (omega (arith, missing (all m) f g, k))
