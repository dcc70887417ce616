-- A connection's waiting sessions, counted from the answers' bytes, are as many as the splicer holds waiting, after every sequence of
-- calls.
-- Rests on Laws (what each piece of work does to a number), on Sound (no number held twice) and on the bytes giving back their records.
use mathlib.Core.Path.{◌≡◌, refl, ap}
use mathlib.Core.Bool.{Bool, true, false, cond}
use mathlib.Core.List.{List, [], ◌∷◌, ◌++◌}
use Prim.Native.Nat.{ℕ, ◌+◌, ◌<◌}
use native.Mathlib.Omega.{arith}
use lib.Dec.{eqb}
use lib.ListN.{length}
use borrow.Author.Tests.{eqb-true}
use Rattle.rules.specs.declared.Session.{Session}
use Rattle.rules.specs.Units.{time_of, from_micros}
use Rattle.rules.specs.Lists.{All, bit, put, keep, count}
use Rattle.rules.specs.Bytes.{has_zero}
use Rattle.rules.specs.Follows.ReadBack.{data_in}
use Rattle.rules.specs.State.{Queue, Splicer, of, is}
use Rattle.rules.proofs.Checks.{read-id}
use Rattle.rules.specs.Records.{Record}
use Rattle.rules.specs.Ends.{Turn, writes, and_then, evicted, closed_by}
use Rattle.rules.specs.Instants.{run_all}
use Rattle.rules.specs.Splicing.{session_at, requested, accepts, accepted, waits}
use Rattle.rules.specs.HouseNumbers.{Called}
use Rattle.rules.specs.Calls.{ticked, Call, call, after, named, fresh}
use Rattle.demands.specs.History.{Event, is_yes, unmarked, front, last, wait_answered, wait_after, waiting_count}
use Rattle.rules.specs.Follows.Sound.{Once, Wired, Sound}
use Rattle.rules.proofs.Tests.{tests, by, clash, eqb_same}
use Rattle.rules.proofs.Count.{bit_and, count-put, count-le}
use Rattle.rules.proofs.Sessions.{count-accepted}
use Rattle.rules.proofs.Sound.{sound-call, sound-fresh}
use Rattle.demands.proofs.Heard.{wait_answer, waiting_of, waiting-found}
use Rattle.demands.specs.Told.{FromFresh}
use Rattle.demands.proofs.Laws.{tally, Law, evicted-law, closed_by-law, plain-law, answered-law, tick-law, Plain, plain-none}
use Rattle.demands.proofs.Cases.{cases}

-- ## Lists of numbers

-- what is kept of the numbers equal to x
module _ (x : ℕ) (p : ℕ → Bool) where
  keep-in : (l : List ℕ) → p x ≡ true → count (eqb x) (keep p l) ≡ count (eqb x) l
  keep-in [] e = refl
  keep-in (y ∷ l) e = go (eqb x y) refl (p y) refl (keep-in l e)
    where
      go : (b : Bool) → eqb x y ≡ b → (d : Bool) → p y ≡ d → count (eqb x) (keep p l) ≡ count (eqb x) l
          → count (eqb x) (put d y (keep p l)) ≡ bit b + count (eqb x) l
      go b f true g ih = rw (f, ih)
      go false f false g ih = omega arith
      go true f false g ih = absurd (clash (p x) e (rw (eqb-true x y f) g))

  keep_out : (l : List ℕ) → p x ≡ false → count (eqb x) (keep p l) ≡ 0
  keep_out [] e = refl
  keep_out (y ∷ l) e = go (eqb x y) refl (p y) refl (keep_out l e)
    where
      go : (b : Bool) → eqb x y ≡ b → (d : Bool) → p y ≡ d → count (eqb x) (keep p l) ≡ 0 → count (eqb x) (put d y (keep p l)) ≡ 0
      go b f false g ih = ih
      go false f true g ih = rw f (omega arith)
      go true f true g ih = absurd (clash (p x) (rw (eqb-true x y f) g) e)

module _ {A : Type 0} where
  pub front-last : (l : List A) (x : A) → front (l ++ (x ∷ [])) ≡ l
  unfolding front
  front-last [] x = refl
  front-last (y ∷ []) x = refl
  front-last (y ∷ z ∷ l) x = ap (y ∷◌) (front-last (z ∷ l) x)

  pub last-last : (p : A → Bool) (l : List A) (x : A) → last p (l ++ (x ∷ [])) ≡ p x
  unfolding last
  last-last p [] x = refl
  last-last p (y ∷ []) x = refl
  last-last p (y ∷ z ∷ l) x = last-last p (z ∷ l) x

-- ## The answers' numbers are the waiting ones

-- L c: the numbers of connection c that wait, from the answers
pub record Counted (q : Queue) (L : ℕ → List ℕ) : Type 0 where
  pub same : (c x : ℕ) → count (eqb x) (L c) ≡ tally c x q.waiting

-- equal lists serve alike
relist : (q : Queue) (L M : ℕ → List ℕ) → ((c : ℕ) → M c ≡ L c) → Counted q L → Counted q M
relist q L M e g = record { same = λ c x. rw (e c) (g.same c x) }

-- after a piece of work
module _ (q : Queue) (L : ℕ → List ℕ) (once : Once q) (g : Counted q L) where
  turn-counted : (t : Turn) → ((c x : ℕ) → Law c x q t) → Counted t.queue (λ c. keep (unmarked c t.written) (L c))
  turn-counted t law = record { same = λ c x. go c x (unmarked c t.written x) refl }
    where
      go : (c x : ℕ) (b : Bool) → unmarked c t.written x ≡ b
          → count (eqb x) (keep (unmarked c t.written) (L c)) ≡ tally c x t.queue.waiting
      go c x true e = omega (arith, tests, keep-in x (unmarked c t.written) (L c) e, g.same c x, once c x, law c x)
      go c x false e = omega (arith, tests, keep_out x (unmarked c t.written) (L c) e, g.same c x, once c x, law c x)

  plain-counted : (rs : List Record) → Plain rs → Counted q (λ c. keep (unmarked c rs) (L c))
  plain-counted rs p = turn-counted (writes rs q) (λ c x. plain-law c x q rs p)

-- ## Every call

module _ (s : Splicer) (L : ℕ → List ℕ) (h : Sound s) (g : Counted s.queue L) where
  abbrev q : Queue
  q = s.queue

  once : Once q
  once = h.holding.once

  abbrev P : Call → Called → Type 0
  P k r = Counted r.splicer.queue (λ c. wait_answer c k r.answer (L c))

  opened-counted : (d : ℕ) → ((x : ℕ) → tally d x q.waiting ≡ 0) → Counted q (λ c. cond (eqb c d) [] (L c))
  opened-counted d none = record { same = λ c x. go c x (eqb c d) refl }
    where
      go : (c x : ℕ) (b : Bool) → eqb c d ≡ b → count (eqb x) (cond b [] (L c)) ≡ tally c x q.waiting
      go c x true f = rw (eqb-true c d f) (omega (arith, none x))
      go c x false f = g.same c x

  new-counted : (new : Session) → Counted (accepted new q).queue
      (λ c. put (eqb c new.conn) new.id (keep (unmarked c (evicted new.start.0 q).written) (L c)))
  new-counted new =
      let t = evicted new.start.0 q in
      let k = turn-counted q L once g t (λ c x. evicted-law c x new.start.0 q) in
      record { same = λ c x. rw (count-accepted (is c x) new q, count-put, k.same c x) }

  call-counted : (k : Call) → P k (call k s)
  unfolding wait_after wait_answered front last accepted and_then is_yes requested session_at ticked
  call-counted =
      cases s P (record {
        refusing = λ k n. g;
        opening = λ c low e. opened-counted c (λ x. omega (
          arith,
          count-le (is c x) (of c) (λ u. bit_and (eqb c u.conn) (eqb x u.id))
              q.waiting,
          h.linking.shut c e,
        ));
        closing = λ c room low e. turn-counted q L once g (closed_by c q) (λ d x. closed_by-law d x c q);
        saying = λ c l loans n rs e p. rw e (plain-counted q L once g rs p);
        naming = λ c l loans n r hw e p. rw e (plain-counted q L once g (r ∷ []) p);
        aborting = λ c l loans n x e i. rw e (turn-counted q L once g _ (λ d y. answered-law d y c x q));
        declining = λ c l loans n r e y o. relist q (λ d. keep (unmarked d []) (L d)) _ (λ d. rw (e, y))
            (plain-counted q L once g [] plain-none);
        accepting = λ c l loans n r e f p. let new = requested c r q in
            let rs = (evicted new.start.0 q).written in
            relist _ (λ d. put (eqb d c) r.id (keep (unmarked d rs) (L d))) _
            (λ d. rw (
              e,
              ← (read-id (data_in l) r f),
              last-last (is_yes c r.id) rs (accepts new),
              front-last rs (accepts new),
              eqb_same c,
              eqb_same r.id,
            )) (new-counted new);
        ticking = λ seconds micros room le. let until = (from_micros (time_of seconds micros)).0 in
            turn-counted q L once g (run_all s.clock until q) (λ d x. tick-law d x s.clock until q);
        moving = λ until room le. turn-counted q L once g (run_all s.clock until q) (λ d x. tick-law d x s.clock until q);
        cueing = λ l pts seconds micros room rs p. plain-counted q L once g rs p;
      })

-- ## Every sequence of calls

pub counted-always : (ks : List Call) (s : Splicer) (L : ℕ → List ℕ) → All Wired ks → Sound s → Counted s.queue L
    → Counted (after ks s).queue (λ c. waiting_of c ks s (L c))
unfolding after waiting_of
counted-always [] s L a h g = g
counted-always (k ∷ ks) s L a h g =
    counted-always ks (call k s).splicer (λ c. wait_answer c k (call k s).answer (L c)) a.1 (sound-call s k a.0 h)
    (call-counted s L h g k)

counted-fresh : (name : List ℕ) → Counted (fresh name).splicer.queue (λ c. [])
unfolding fresh named
counted-fresh name = by (λ (r : Called). Counted r.splicer.queue (λ c. [])) (has_zero name) _ _ (λ e. record { same = λ c x. refl })
    (λ e. record { same = λ c x. refl })

-- ## From equal counts of each number to equal lengths

without : ℕ → List ℕ → List ℕ
without x [] = []
without x (y ∷ l) = cond (eqb x y) l (y ∷ without x l)

count-without : (p : ℕ → Bool) (x : ℕ) (l : List ℕ) → 0 < count (eqb x) l → count p l ≡ bit (p x) + count p (without x l)
unfolding without
count-without p x [] h = absurd (omega arith)
count-without p x (y ∷ l) h = go (eqb x y) refl (count-without p x l)
  where
    go : (b : Bool) → eqb x y ≡ b → (0 < count (eqb x) l → count p l ≡ bit (p x) + count p (without x l))
        → bit (p y) + count p l ≡ bit (p x) + count p (cond b l (y ∷ without x l))
    go true e ih = rw (eqb-true x y e)
    go false e ih = omega (arith, ih (omega (arith, ap bit e)))

length-count : (l : List ℕ) → length l ≡ count (λ (x : ℕ). true) l
length-count [] = refl
length-count (x ∷ l) = omega (arith, length-count l)

sizes : (c : ℕ) (w : List Session) (l : List ℕ) → ((x : ℕ) → count (eqb x) l ≡ tally c x w) → length l ≡ waits c w
sizes c [] [] h = refl
sizes c [] (y ∷ l) h = absurd (omega (arith, h y, ap bit (eqb_same y)))
sizes c (s ∷ w) l h = go (eqb c s.conn) refl (sizes c w)
  where
    go : (b : Bool) → eqb c s.conn ≡ b → ((m : List ℕ) → ((x : ℕ) → count (eqb x) m ≡ tally c x w) → length m ≡ waits c w)
        → length l ≡ bit b + waits c w
    go false e ih = omega (arith, ih l (λ x. omega (arith, rw e at (h x))))
    go true e ih =
        let y = s.id in
        let k : (x : ℕ) → count (eqb x) l ≡ bit (eqb x y) + tally c x w = λ x. rw e at (h x) in
        let has : 0 < count (eqb y) l = omega (arith, k y, ap bit (eqb_same y)) in
        omega (
          arith,
          ih (without y l) (λ x. omega (arith, count-without (eqb x) y l has, k x)),
          count-without (λ (x : ℕ). true) y l has,
          length-count l,
          length-count (without y l),
        )

-- ## The count

pub waiting-counted : (h : List Event) (s : Splicer) → FromFresh h s → (c : ℕ) → waiting_count c h ≡ waits c s.queue.waiting
unfolding waiting_count
waiting-counted h s f c =
    let first = (fresh f.name).splicer in
    let z = sound-fresh f.name f.whole f.bytes in
    rw (f.heard, f.same, waiting-found c f.calls first [] f.wired z)
    (sizes c (after f.calls first).queue.waiting (waiting_of c f.calls first [])
    ((counted-always f.calls first (λ d. []) f.wired z (counted-fresh f.name)).same c))
