-- 02, CR 6: of the two sections that are lent a message needs one alone, that of `needed`.
use mathlib.Core.Path.{◌≡◌, refl, sym, ap, subst, ◌∙◌}
use mathlib.Core.Bool.{Bool, true, false, cond}
use mathlib.Core.List.{List, [], ◌∷◌}
use Prim.Native.Nat.{ℕ, ◌+◌}
use native.Mathlib.Omega.{arith}
use lib.Dec.{eqb, ltb}
use lib.ListN.{length}
use borrow.Author.Tests.{eqb-true}
use Rattle.rules.specs.declared.Session.{Session}
use Rattle.rules.specs.declared.Header.{Header}
use Rattle.rules.specs.declared.Refusal.{Refusal}
use Rattle.std.specs.Prelude.{Result, Ok, Err}
use Rattle.rules.specs.declared.Refusal.TheVariants.{LongSection}
use Rattle.rules.specs.State.{Splicer}
use Rattle.rules.specs.Answers.{air_feed, air_map, answer}
use Rattle.rules.specs.Bytes.{data_of}
use Rattle.rules.specs.HouseNumbers.{Loans, Called, refuse, replies, lending_maps, longest_section, long_section}
use Rattle.rules.specs.Calls.{framing, section_of, handled}
use Rattle.rules.specs.Calls.{message_call}
use Rattle.memory.specs.Memory.{see, shown}
use Rattle.engine.specs.Lent.{Answer, Answers, Makes, needed}
use Rattle.engine.proofs.Calls.{guarded}

-- the choice, of the sections in place of what is lent
pub needed_of : {A B : Type 0} (f : A → B) (i j n : ℕ) (x y : A) → f (needed i j n x y) ≡ needed i j n (f x) (f y)
needed_of f i j n x y = go (ltb longest_section i) (ltb longest_section j) (eqb n 0)
  where
    go : (a b k : Bool) → f (cond a x (cond b y (cond k x y))) ≡ cond a (f x) (cond b (f y) (cond k (f x) (f y)))
    go true b k = refl
    go false true k = refl
    go false false true = refl
    go false false false = refl

air-of : (k : List Session) (p q : List ℕ) (v : Bool) → eqb (length k) 0 ≡ v
    → air_map k p q ≡ air_map k (cond v p q) (cond v p q)
unfolding air_feed
air-of [] p q true e = refl
air-of [] p q false e = let z : ◌≡◌ {A = ℕ} 0 1 = cc in absurd (omega arith)
air-of (x ∷ k) p q true e = let z : length (x ∷ k) ≡ 0 = eqb-true (length (x ∷ k)) 0 e in absurd (omega arith)
air-of (x ∷ k) p q false e = refl

handled-of : (c : ℕ) (f : Result Header Refusal) (l : List ℕ) (x y : Loans) (s : Splicer) → section_of x s ≡ section_of y s
    → handled c f l x s ≡ handled c f l y s
unfolding handled
handled-of c (Err n) l x y s e = refl
handled-of c (Ok h) l x y s e = ap (λ (z : List ℕ). replies (8 + h.size) (answer c h.id (data_of h.size l) z s)) e

module _ (c room : ℕ) (l p q : List ℕ) (s : Splicer) where
  abbrev rest : (p q : List ℕ) → Called
  rest p q = cond (long_section (lending_maps p q room)) (refuse LongSection s) (handled c (framing l) l (lending_maps p q room) s)

  rest_of : (a b n : Bool) → ltb longest_section (length p) ≡ a → ltb longest_section (length q) ≡ b
      → eqb (length s.queue.started) 0 ≡ n
      → rest p q ≡ rest (cond a p (cond b q (cond n p q))) (cond a p (cond b q (cond n p q)))
  rest_of true b n e f g = rw e
  rest_of false true n e f g = rw (e, f)
  rest_of false false true e f g =
      rw (e, f) (handled-of c (framing l) l (lending_maps p q room) (lending_maps p p room) s (air-of s.queue.started p q true g))
  rest_of false false false e f g =
      rw (e, f) (handled-of c (framing l) l (lending_maps p q room) (lending_maps q q room) s (air-of s.queue.started p q false g))

  -- a message that is lent both is one that is lent the one section twice
  pub one_map : {x : List ℕ} → x ≡ needed (length p) (length q) (length s.queue.started) p q
      → message_call c l (lending_maps p q room) s ≡ message_call c l (lending_maps x x room) s
  unfolding message_call
  one_map {x} e =
      ap (guarded c room s)
      (rest_of (ltb longest_section (length p)) (ltb longest_section (length q)) (eqb (length s.queue.started) 0) refl refl refl
      ∙ ap (λ (z : List ℕ). rest z z) (sym e))

-- what the call promises with the one that is needed, it promises with both
pub makes_one : (c : ℕ) (l p q m b : List ℕ) {x e : List ℕ} {r : Answer} {n d o : List ℕ}
    → x ≡ needed (length p) (length q) (length (see m).queue.started) p q
    → Makes (λ room. message_call c l (lending_maps x x room)) m b e r n d o
    → Makes (λ room. message_call c l (lending_maps p q room)) m b e r n d o
makes_one c l p q m b {x} {e} {r} {n} {d} {o} f g =
    subst (λ (y : Called). Answers y (see m).ring_end e r n d o) (sym (one_map c (length e) l p q (shown m b) f)) g
