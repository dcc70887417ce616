-- Priors: a waiting linked session's prior is held by its connection and ends at its start. So a session has at most one direct
-- follower, a walk gives followers in order of start, and leaves none that follows what went. Assumes nothing.
use mathlib.Core.Path.{◌≡◌, refl, ap, sym, ◌∙◌}
use mathlib.Core.Bool.{Bool, true, false, not, ◌&&◌}
use mathlib.Core.List.{List, [], ◌∷◌}
use Prim.Native.Nat.{ℕ, zero, suc, ◌+◌, ◌≤◌, ◌<◌}
use native.Mathlib.Omega.{arith}
use lib.Dec.{eqb, ltb}
use lib.ListN.{length, get_or}
use borrow.Author.Tests.{eqb-true, eq-eqb, ltb-true, ltb-false}
use Rattle.rules.specs.declared.Session.{Session}
use Rattle.rules.specs.Lists.{bit, count, place, remove_at}
use Rattle.rules.specs.Request.{nobody}
use Rattle.rules.specs.State.{Queue, empty, is, follows}
use Rattle.rules.specs.Ends.{Walk, walk, followers, dismissed}
use Rattle.rules.proofs.Tests.{clash, by, failed, and_both, both-and}
use Rattle.rules.proofs.All.{All, all-into}
use Rattle.rules.proofs.Count.{count-apart, count-remove_at, length-remove_at, place-holds, place_none}
use Rattle.rules.proofs.Every.{all_any, all_both, all_get_d, all_none, none-all, all-counted, Fewer, fewer-remove_at, fewer-all}
use Rattle.rules.proofs.Every.{fewer-count, Sorted, Each}
use Rattle.rules.proofs.Walk.{Walked, walked, followed}
use Rattle.rules.proofs.Sessions.{held_count}
use Rattle.rules.proofs.Timed.{OnTime}
use Rattle.rules.proofs.Held.{Proper, Once}
pub use Rattle.rules.specs.Follows.Sound.{is_prior, Tied}

pub tied-more : (n n' : (Session → Bool) → ℕ) → ((p : Session → Bool) → n p ≤ n' p) → (w : List Session) → All (Tied n) w → All (Tied n') w
tied-more n n' le w a = all-into (Tied n) (Tied n') (λ s d e. omega (arith, d e, le (is_prior s))) w a

module _ (s u : Session) (h : is_prior s u ≡ true) where
  pub prior-parts : (s.conn ≡ u.conn) × (s.prior ≡ u.id) × (s.start.0 ≡ u.end.0)
  prior-parts =
      let i = and_both (is s.conn s.prior u) (eqb s.start.0 u.end.0) h in
      let j = and_both (eqb s.conn u.conn) (eqb s.prior u.id) i.0 in
      (eqb-true s.conn u.conn j.0, eqb-true s.prior u.id j.1, eqb-true s.start.0 u.end.0 i.1)

  -- s was requested behind its prior
  prior-follows : (c x : ℕ) → c ≡ u.conn → x ≡ u.id → follows c x s ≡ true
  prior-follows c x e f =
      let k = prior-parts in
      both-and (eqb c s.conn) (eqb x s.prior) (eq-eqb c s.conn (cc)) (eq-eqb x s.prior (cc))

follows-parts : (c x : ℕ) (s : Session) → follows c x s ≡ true → (c ≡ s.conn) × (x ≡ s.prior)
follows-parts c x s h =
    let i = and_both (eqb c s.conn) (eqb x s.prior) h in
    (eqb-true c s.conn i.0, eqb-true x s.prior i.1)

is-parts : (c x : ℕ) (u : Session) → is c x u ≡ true → (c ≡ u.conn) × (x ≡ u.id)
is-parts c x u h =
    let i = and_both (eqb c u.conn) (eqb x u.id) h in
    (eqb-true c u.conn i.0, eqb-true x u.id i.1)

-- ## At most one direct follower, and it starts where the other ends

abbrev pub Single : List Session → Type 0
Single w = (c x : ℕ) → eqb x nobody ≡ false → count (follows c x) w ≤ 1

abbrev pub Behind : List Session → Type 0
Behind w = All (λ g. All (λ s. follows g.conn g.id s ≡ true → g.end.0 ≡ s.start.0) w) w

module _ (q : Queue) (once : Once q) where
  -- two tests that no number x of connection c passes together are not both passed
  apart : (c x : ℕ) (p r : Session → Bool) → ((u : Session) → bit (p u) + bit (r u) ≤ bit (is c x u)) → 0 < held_count q p
      → 0 < held_count q r → ⊥
  apart c x p r h a b = omega (arith, once c x, count-apart p r (is c x) h q.waiting, count-apart p r (is c x) h q.started)

  single : (c x : ℕ) → eqb x nobody ≡ false → (w : List Session) → Sorted w → All (Tied (held_count q)) w → count (follows c x) w ≤ 1
  single c x z [] o t = omega arith
  single c x z (s ∷ w) o t = go (follows c x s) refl (single c x z w o.1 t.1)
    where
      other : follows c x s ≡ true → (u : Session) → s.start.0 < u.start.0 → Tied (held_count q) u → follows c x u ≡ true → ⊥
      other f u lt d g =
          apart c x (is_prior s) (is_prior u) (λ y. one y (is_prior s y) refl (is_prior u y) refl)
          (t.0 (rw (← (follows-parts c x s f).1) z))
          (d (rw (← (follows-parts c x u g).1) z))
        where
          named : (v y : Session) → follows c x v ≡ true → is_prior v y ≡ true → is c x y ≡ true
          named v y i j =
              let k = prior-parts v y j in
              let m = follows-parts c x v i in
              both-and (eqb c y.conn) (eqb x y.id) (eq-eqb c y.conn (m.0 ∙ k.0)) (eq-eqb x y.id (m.1 ∙ k.1))

          one : (y : Session) (a : Bool) → is_prior s y ≡ a → (b : Bool) → is_prior u y ≡ b → bit a + bit b ≤ bit (is c x y)
          one y true i true j = absurd (omega (arith, (prior-parts s y i).2, (prior-parts u y j).2))
          one y true i false j = omega (arith, ap bit (named s y f i))
          one y false i true j = omega (arith, ap bit (named u y g j))
          one y false i false j = omega arith

      go : (b : Bool) → follows c x s ≡ b → count (follows c x) w ≤ 1 → bit b + count (follows c x) w ≤ 1
      go true f ih =
          omega (
            arith,
            none-all (follows c x) w (all-into (λ u. (s.start.0 < u.start.0) × Tied (held_count q) u) (λ u. follows c x u ≡ false)
                (λ u h. failed (follows c x u) (other f u h.0 h.1)) w
                (all_both (λ u. s.start.0 < u.start.0) (Tied (held_count q)) w o.0 t.1)),
          )
      go false f ih = omega arith

  behind : All Proper q.waiting → All (Tied (held_count q)) q.waiting → Behind q.waiting
  behind proper tied =
      all-into (λ g. Proper g × ((p : Session → Bool) → p g ≡ true → 0 < count p q.waiting))
      (λ g. All (λ s. follows g.conn g.id s ≡ true → g.end.0 ≡ s.start.0) q.waiting)
      (λ g h. all-into (Tied (held_count q)) (λ s. follows g.conn g.id s ≡ true → g.end.0 ≡ s.start.0)
      (λ s d f. meet g s h.0 h.1 d f (eqb s.start.0 g.end.0) refl) q.waiting tied)
      q.waiting (all_both Proper (λ g. (p : Session → Bool) → p g ≡ true → 0 < count p q.waiting) q.waiting proper
      (all-counted q.waiting))
    where
      meet : (g s : Session) → Proper g → ((p : Session → Bool) → p g ≡ true → 0 < count p q.waiting) → Tied (held_count q) s
          → follows g.conn g.id s ≡ true
          → (b : Bool) → eqb s.start.0 g.end.0 ≡ b → g.end.0 ≡ s.start.0
      meet g s pr mem d f true e = sym (eqb-true s.start.0 g.end.0 e)
      meet g s pr mem d f false e =
          let k = follows-parts g.conn g.id s f in
          let own : is s.conn s.prior g ≡ true = both-and (eqb s.conn g.conn) (eqb s.prior g.id)
          (eq-eqb s.conn g.conn (sym k.0)) (eq-eqb s.prior g.id (sym k.1)) in
          let r : Session → Bool = λ y. is s.conn s.prior y && not (eqb s.start.0 y.end.0) in
          let z : eqb s.prior nobody ≡ false = rw (← k.1) pr.somebody in
          absurd (apart s.conn s.prior (is_prior s) r (λ y. halves (is s.conn s.prior y) (eqb s.start.0 y.end.0)) (d z)
          (omega (arith, mem r (both-and (is s.conn s.prior g) (not (eqb s.start.0 g.end.0)) own (rw e)))))
        where
          halves : (a b : Bool) → bit (a && b) + bit (a && not b) ≤ bit a
          halves true true = omega arith
          halves true false = omega arith
          halves false b = omega arith

-- what a walk needs of those that it goes through
pub record Orderly (w : List Session) : Type 0 where
  pub single : Single w
  pub behind : Behind w
  pub proper : All Proper w

pub orderly-fewer : (w v : List Session) → Fewer w v → Orderly w → Orderly v
orderly-fewer w v f h =
    record {
      single = λ c x z. omega (arith, h.single c x z, fewer-count (follows c x) f);
      behind = all-into (λ g. All (λ s. follows g.conn g.id s ≡ true → g.end.0 ≡ s.start.0) w)
          (λ g. All (λ s. follows g.conn g.id s ≡ true → g.end.0 ≡ s.start.0) v)
          (λ g a. fewer-all (λ s. follows g.conn g.id s ≡ true → g.end.0 ≡ s.start.0) f a) v (fewer-all _ f h.behind);
      proper = fewer-all Proper f h.proper;
    }

-- ## A walk leaves none that follows what went

abbrev pub Untied : ℕ → ℕ → List Session → Session → Type 0
Untied c x gone s = (follows c x s ≡ false) × All (λ g. follows g.conn g.id s ≡ false) gone

module _ (c : ℕ) where
  walk-closed : (n x : ℕ) (w : List Session) → length w ≤ n → eqb x nobody ≡ false → Orderly w
      → All (Untied c x (walk n c x w).gone) (walk n c x w).left
  unfolding walk
  walk-closed zero x [] l z h = tt
  walk-closed zero x (s ∷ w) l z h = absurd (omega arith)
  walk-closed (suc n) x w l z h =
      by (λ (r : Walk). All (Untied c x r.gone) r.left) (ltb i (length w)) _ _
      (λ e. more (ltb-true i (length w) e) (walk-closed n s.id (remove_at i w)))
      (λ e. all-into (λ u. follows c x u ≡ false) (Untied c x []) (λ u k. (k, tt)) w
      (all_none (follows c x) w (place_none (follows c x) w (ltb-false i (length w) e))))
    where
      i : ℕ
      i = place (follows c x) w

      s : Session
      s = get_or w i empty

      on : Walk
      on = walk n c s.id (remove_at i w)

      more : i < length w → (length (remove_at i w) ≤ n → eqb s.id nobody ≡ false → Orderly (remove_at i w)
          → All (Untied c s.id on.gone) on.left)
          → All (Untied c x (s ∷ on.gone)) on.left
      more k ih =
          let f = place-holds (follows c x) w empty k in
          let p = all_get_d Proper w i empty k h.proper in
          let a = ih (omega (arith, length-remove_at i w k)) p.somebody (orderly-fewer w (remove_at i w) (fewer-remove_at i w) h) in
          let b : count (follows c x) (remove_at i w) ≡ 0 = omega (
            arith,
            h.single c x z,
            count-remove_at (follows c x) i w empty k,
            ap bit f,
          ) in
          let d : All (λ u. follows c x u ≡ false) on.left = fewer-all (λ u. follows c x u ≡ false)
          (walked n c s.id (remove_at i w)).fewer (all_none (follows c x) (remove_at i w) b) in
          all-into (λ u. Untied c s.id on.gone u × (follows c x u ≡ false)) (Untied c x (s ∷ on.gone))
          (λ u m. (m.1, (rw (← (follows-parts c x s f).0) m.0.0, m.0.1))) on.left
          (all_both (Untied c s.id on.gone) (λ u. follows c x u ≡ false) on.left a d)

  -- ## and gives the followers in order of start: t is where number x ends
  walk-sorted : (n x t : ℕ) (w : List Session) → Orderly w → All (λ s. follows c x s ≡ true → t ≤ s.start.0) w
      → Sorted (walk n c x w).gone × All (λ s. t ≤ s.start.0) (walk n c x w).gone
  unfolding walk
  walk-sorted zero x t w h a = (tt, tt)
  walk-sorted (suc n) x t w h a =
      by (λ (r : Walk). Sorted r.gone × All (λ s. t ≤ s.start.0) r.gone) (ltb i (length w)) _ _
      (λ e. more (ltb-true i (length w) e) (walk-sorted n s.id s.end.0 (remove_at i w))) (λ e. (tt, tt))
    where
      i : ℕ
      i = place (follows c x) w

      s : Session
      s = get_or w i empty

      on : Walk
      on = walk n c s.id (remove_at i w)

      more : i < length w
          → (Orderly (remove_at i w) → All (λ u. follows c s.id u ≡ true → s.end.0 ≤ u.start.0) (remove_at i w)
          → Sorted on.gone × All (λ u. s.end.0 ≤ u.start.0) on.gone)
          → Sorted (s ∷ on.gone) × All (λ u. t ≤ u.start.0) (s ∷ on.gone)
      more k ih =
          let f = place-holds (follows c x) w empty k in
          let p = all_get_d Proper w i empty k h.proper in
          let b = all_get_d (λ g. All (λ u. follows g.conn g.id u ≡ true → g.end.0 ≡ u.start.0) w) w i empty k h.behind in
          let at : t ≤ s.start.0 = all_get_d (λ u. follows c x u ≡ true → t ≤ u.start.0) w i empty k a f in
          let j = ih (orderly-fewer w (remove_at i w) (fewer-remove_at i w) h)
          (fewer-all (λ u. follows c s.id u ≡ true → s.end.0 ≤ u.start.0) (fewer-remove_at i w)
          (all-into (λ u. follows s.conn s.id u ≡ true → s.end.0 ≡ u.start.0)
          (λ u. follows c s.id u ≡ true → s.end.0 ≤ u.start.0)
          (λ u m e. omega (arith, m (rw (← (follows-parts c x s f).0) e))) w b)) in
          let lasts = p.lasts in (
            (all-into (λ u. s.end.0 ≤ u.start.0) (λ u. s.start.0 < u.start.0) (λ u m. omega arith) on.gone j.1, j.0),
            (at, all-into (λ u. s.end.0 ≤ u.start.0) (λ u. t ≤ u.start.0) (λ u m. omega arith) on.gone j.1),
          )

  module _ (x : ℕ) (w : List Session) (h : Orderly w) where
    pub followers-closed : eqb x nobody ≡ false → All (Untied c x (followers c x w).gone) (followers c x w).left
    unfolding followers
    followers-closed z = walk-closed (length w) x w (omega arith) z h

    pub followers-sorted : Sorted (followers c x w).gone
    unfolding followers
    followers-sorted = (walk-sorted (length w) x 0 w h (all_any (λ s. follows c x s ≡ true → 0 ≤ s.start.0) (λ s e. omega arith) w)).0

    -- from number x that ends at t
    pub followers-after : (t : ℕ) → All (λ s. follows c x s ≡ true → t ≤ s.start.0) w → All (λ s. t ≤ s.start.0) (followers c x w).gone
    unfolding followers
    followers-after t a = (walk-sorted (length w) x t w h a).1

-- ## What a queue keeps

pub record Chained (now : ℕ) (q : Queue) : Type 0 where
  pub timed : OnTime now q
  pub proper : Each Proper q
  pub once : Once q
  pub tied : All (Tied (held_count q)) q.waiting

pub orderly : (now : ℕ) (q : Queue) → Chained now q → Orderly q.waiting
orderly now q h =
    record {
      single = λ c x z. single q h.once c x z q.waiting h.timed.sorted h.tied;
      behind = behind q h.once h.proper.waiting h.tied;
      proper = h.proper.waiting;
    }

-- number x of connection c went (the sessions l), and then its followers; what still waits stays tied
pub dismissed-tied : (r c x : ℕ) (q : Queue) (l : List Session) → eqb x nobody ≡ false → Orderly q.waiting → All (λ g. is c x g ≡ true) l
    → All (Tied (λ p. count p l + held_count q p)) q.waiting
    → All (Tied (held_count (dismissed r c x q).queue)) (dismissed r c x q).queue.waiting
unfolding dismissed
dismissed-tied r c x q l z o own t =
    all-into (λ s. Untied c x f.gone s × Tied n s) (Tied n') (λ s h. stays s h.0 h.1) f.left
    (all_both (Untied c x f.gone) (Tied n) f.left (followers-closed c x q.waiting o z) (fewer-all (Tied n) k.fewer t))
  where
    f : Walk
    f = followers c x q.waiting

    k : Walked c x q.waiting f
    k = followed c x q.waiting

    n : (Session → Bool) → ℕ
    n p = count p l + held_count q p

    n' : (Session → Bool) → ℕ
    n' p = count p f.left + count p q.started

    none-own : (s : Session) → follows c x s ≡ false → count (is_prior s) l ≡ 0
    none-own s e =
        none-all (is_prior s) l (all-into (λ g. is c x g ≡ true) (λ g. is_prior s g ≡ false)
        (λ g i. failed (is_prior s g) (λ j. clash (follows c x s) (prior-follows s g j c x (is-parts c x g i).0 (is-parts c x g i).1) e)) l
        own)

    none-gone : (s : Session) → All (λ g. follows g.conn g.id s ≡ false) f.gone → count (is_prior s) f.gone ≡ 0
    none-gone s a =
        none-all (is_prior s) f.gone (all-into (λ g. follows g.conn g.id s ≡ false) (λ g. is_prior s g ≡ false)
        (λ g e. failed (is_prior s g) (λ j. clash (follows g.conn g.id s) (prior-follows s g j g.conn g.id refl refl) e))
        f.gone a)

    stays : (s : Session) → Untied c x f.gone s → Tied n s → Tied n' s
    stays s u d e = omega (arith, d e, none-own s u.0, none-gone s u.1, k.counts (is_prior s))
