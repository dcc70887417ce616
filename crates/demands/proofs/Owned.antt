-- The accepted sessions of a history beside those that are held, at a time: which are started and unended, and how long each was on air.
-- What one end, one start, one acceptance and time passing do to it. Assumes nothing.
use mathlib.Core.Path.{◌≡◌, refl, ap, sym, ◌∙◌}
use mathlib.Core.Bool.{Bool, true, false, not, ◌&&◌, ◌||◌, and-false}
use mathlib.Core.List.{List, [], ◌∷◌}
use Prim.Native.Nat.{ℕ, zero, suc, ◌+◌, ◌-◌, ◌*◌, ◌/◌, ◌≤◌, ◌<◌, min}
use native.Mathlib.Omega.{arith}
use lib.Dec.{eqb, leb, ltb}
use borrow.Author.Tests.{eqb-true, ne_eqb, ltb-true, ltb-false, lt-ltb, le-ltb, lt-leb, le-leb}
use Rattle.rules.specs.declared.Session.{Session}
use Rattle.rules.specs.Units.{to_ticks}
use Rattle.rules.specs.Lists.{All, bit, some, count}
use Rattle.rules.specs.State.{is}
use Rattle.rules.specs.Records.{Record}
use Rattle.rules.specs.Instants.{on_air, silence}
use Rattle.rules.specs.Follows.Sound.{Falling}
use Rattle.rules.proofs.Tests.{clash, and_both, eqb_same}
use Rattle.rules.proofs.All.{all-into}
use Rattle.rules.proofs.Every.{all_both, all_none, none-all, none-some}
use Rattle.rules.proofs.Tick.{count-on_air}
use Rattle.demands.specs.Airing.{Airing, newest, begins, lists, says_played, ends, heard, during, live_at, peak_at, top_at, primary_time}
use Rattle.demands.specs.Airing.{air_time}
use Rattle.demands.proofs.Ninths.{Distinct, during-suc, during-same, during-never, during-on, peak-is}
use Rattle.demands.proofs.Marks.{EndOf, StartOf, upon, heard-end, heard-start, other, count-upon, all-upon, newest-same}
use Rattle.demands.proofs.Marks.{newest-other, Quiet, some-upon, peak-upon, Onward, newer, onward_then, onward-upon}

-- ## The invariant

-- what the history tells of a session that is held
abbrev pub airing : Bool → Session → Airing
airing b s = record {
  conn = s.conn;
  id = s.id;
  access = s.access;
  start = s.start.0;
  end = s.end.0;
  begun = b;
  over = false;
  to = 0;
  listed = false;
  said = 0;
}

-- started and unended, so far
abbrev pub airs : Airing → Bool
airs a = a.begun && not a.over

-- one that waits
pub record Waits (l : List Airing) (s : Session) : Type 0 where
  pub told : newest s.conn s.id l ≡ airing false s
  pub silent : s.played.0 ≡ 0

-- one that has started
pub record Plays (now : ℕ) (l : List Airing) (s : Session) : Type 0 where
  pub told : newest s.conn s.id l ≡ airing true s
  pub begun : s.start.0 ≤ now
  pub played : air_time now l (airing true s) ≡ s.played.0

-- what has begun began by now, and if it is over it was over by now
pub record Past (now : ℕ) (a : Airing) : Type 0 where
  pub begun : a.begun ≡ true → a.start ≤ now
  pub over : a.begun ≡ true → a.over ≡ true → a.to ≤ now

-- a PlayedDuration that was told is the time counted, in ticks and rounded down
pub record Listed (now : ℕ) (l : List Airing) (a : Airing) : Type 0 where
  pub over : a.listed ≡ true → a.over ≡ true
  pub said : a.listed ≡ true → a.said ≡ air_time now l a / 100

-- an earlier point of the history
pub record Base : Type 0 where
  pub time : ℕ
  pub told : List Airing

-- r, an end of s, tells its time on air if it is a SpliceComplete flag 1
abbrev pub Tells : Session → Record → Type 0
Tells s r = lists r ≡ true → says_played r ≡ (to_ticks s.played).0

-- w wait and k have started, at the time now, and pr of it was the primary channel's
pub record Owned (β : Base) (now pr : ℕ) (w k : List Session) (l : List Airing) : Type 0 where
  pub from : β.time ≤ now
  pub since : Onward β.time β.told l
  pub listed : All (Listed now l) l
  pub primary : primary_time now l ≡ pr
  pub waits : All (Waits l) w
  pub plays : All (Plays now l) k
  pub once : (c x : ℕ) → count (is c x) w + count (is c x) k ≤ 1
  pub live : (p : ℕ → Bool) → count (λ a. airs a && p a.access) l ≡ count (λ s. p s.access) k
  -- those of the history that have had no end are those that are held
  pub unended : (p : Airing → Bool)
      → count (λ a. not a.over && p a) l ≡ count (λ s. p (airing false s)) w + count (λ s. p (airing true s)) k
  pub past : All (Past now) l
  pub distinct : (n : ℕ) → n < now → Distinct n l

-- what is live when another is, with its AccessType, has its time
time-same : (now : ℕ) (l : List Airing) (a b : Airing) → ((n : ℕ) → n < now → live_at n a ≡ live_at n b) → a.access ≡ b.access
    → air_time now l a ≡ air_time now l b
unfolding air_time
time-same now l a b h e = during-same now (λ n. top_at n l a) (λ n. top_at n l b) (λ n i. rw (h n i, e))

-- what has not begun has none
time-unbegun : (now : ℕ) (l : List Airing) (a : Airing) → a.begun ≡ false → air_time now l a ≡ 0
unfolding air_time
time-unbegun now l a e = during-never now (λ n. top_at n l a) (λ n i. rw e)

-- ## A mark on the newest of a number that changes nothing before now

module _ (now c x : ℕ) (f : Airing → Airing) (conn : (a : Airing) → (f a).conn ≡ a.conn) (id : (a : Airing) → (f a).id ≡ a.id)
    (l : List Airing)
    (quiet : (n : ℕ) → n < now → Quiet c x f n (newest c x l)) where
  abbrev m : List Airing
  m = upon c x f l

  apart : (u : Session) → is c x u ≡ false → newest u.conn u.id m ≡ newest u.conn u.id l
  apart u e = newest-other c x f conn id u.conn u.id (other u.conn u.id c x e) l

  time-upon : (a : Airing) → air_time now m a ≡ air_time now l a
  unfolding air_time
  time-upon a = during-same now (λ n. top_at n m a) (λ n. top_at n l a) (λ n h. rw (peak-upon c x f n l (quiet n h)))

  pub primary-upon : primary_time now m ≡ primary_time now l
  unfolding primary_time
  primary-upon = during-same now (λ n. not (some (live_at n) m)) (λ n. not (some (live_at n) l))
      (λ n h. rw (some-upon c x f n l (quiet n h)))

  waits-upon : (w : List Session) → count (is c x) w ≡ 0 → All (Waits l) w → All (Waits m) w
  waits-upon w z a =
      all-into (λ u. (is c x u ≡ false) × Waits l u) (Waits m) (λ u h. record { told = apart u h.0 ∙ h.1.told; silent = h.1.silent })
      w
      (all_both (λ u. is c x u ≡ false) (Waits l) w (all_none (is c x) w z) a)

  plays-upon : (k : List Session) → count (is c x) k ≡ 0 → All (Plays now l) k → All (Plays now m) k
  plays-upon k z a =
      all-into (λ u. (is c x u ≡ false) × Plays now l u) (Plays now m)
      (λ u h. record { told = apart u h.0 ∙ h.1.told; begun = h.1.begun; played = time-upon (airing true u) ∙ h.1.played }) k
      (all_both (λ u. is c x u ≡ false) (Plays now l) k (all_none (is c x) k z) a)

  -- P: it holds of what f made of the newest
  listed-upon : (newest c x l).over ≡ false → Listed now m (f (newest c x l)) → All (Listed now l) l → All (Listed now m) m
  listed-upon e h a =
      all-upon c x f (Listed now m) l
      (all-into (Listed now l) (Listed now m) (λ x i. record {
        over = i.over;
        said =
            λ o. i.said o ∙ ap (λ (n : ℕ). n / 100) (sym (time-upon x));
      }) l a) h

  since-upon : (β : Base) → β.time ≤ now → (newest c x l).over ≡ false → (f (newest c x l)).access ≡ (newest c x l).access
      → Onward β.time β.told l → Onward β.time β.told m
  since-upon β le e g o = onward_then β.time now le o (onward-upon now c x f conn id l e quiet g)

  distinct-upon : (newest c x l).over ≡ false → ((n : ℕ) → n < now → Distinct n l) → (n : ℕ) → n < now → Distinct n m
  distinct-upon e d n h v =
      let q = quiet n h in
      let s : bit (live_at n (f (newest c x l)) && eqb v (suc (f (newest c x l)).access))
      ≡ bit (live_at n (newest c x l) && eqb v (suc (newest c x l).access)) = rw (q.0, q.1) in
      omega (arith, d n h v, count-upon c x f (λ a. live_at n a && eqb v (suc a.access)) l e)

-- the number of one that is held is no other's
module _ (s : Session) where
  is-own : is s.conn s.id s ≡ true
  is-own = rw (eqb_same s.conn, eqb_same s.id)

-- ## One end

module _ (β : Base) (now pr t : ℕ) (r : Record) (s : Session) (e : EndOf s.conn s.id r) (tells : Tells s r) (w k : List Session)
    (l : List Airing) where
  abbrev c : ℕ
  c = s.conn

  abbrev x : ℕ
  x = s.id

  -- a started one: it is over at now
  pub end-started : now ≤ t → now ≤ s.end.0 → min s.end.0 t ≤ now → Owned β now pr w (s ∷ k) l → Owned β now pr w k (heard t r l)
  end-started ht he hm h = rw (heard-end c x t r e l) done
    where
      told : newest c x l ≡ airing true s
      told = h.plays.0.told

      quiet : (n : ℕ) → n < now → Quiet c x (ends t r) n (newest c x l)
      quiet n i = rw (told, lt-ltb n (min s.end.0 t) (omega arith)) (refl, refl)

      found : (newest c x l).over ≡ false
      found = rw told

      z : count (is c x) w + count (is c x) k ≡ 0
      z = omega (arith, h.once c x, ap bit (is-own s))

      kept : air_time now (upon c x (ends t r) l) (ends t r (airing true s)) ≡ s.played.0
      kept =
          time-same now (upon c x (ends t r) l) (ends t r (airing true s)) (airing true s)
          (λ n i. rw (lt-ltb n (min s.end.0 t) (omega arith))) refl
          ∙ time-upon now c x (ends t r) (λ a. refl) (λ a. refl) l quiet (airing true s) ∙ h.plays.0.played

      done : Owned β now pr w k (upon c x (ends t r) l)
      done =
          record {
            from = h.from;
            since = since-upon now c x (ends t r) (λ a. refl) (λ a. refl) l quiet β h.from found refl h.since;
            listed = listed-upon now c x (ends t r) (λ a. refl) (λ a. refl) l quiet found
                (rw told (record { over = λ i. refl; said = λ i. tells i ∙ ap (λ (n : ℕ). n / 100) (sym kept) })) h.listed;
            primary = primary-upon now c x (ends t r) (λ a. refl) (λ a. refl) l quiet ∙ h.primary;
            waits = waits-upon now c x (ends t r) (λ a. refl) (λ a. refl) l quiet w (omega (arith, z)) h.waits;
            plays = plays-upon now c x (ends t r) (λ a. refl) (λ a. refl) l quiet k (omega (arith, z)) h.plays.1;
            once = λ d y. omega (arith, h.once d y);
            live = λ p. let i = rw told at (count-upon c x (ends t r) (λ a. airs a && p a.access) l found) in
                omega (arith, i, h.live p);
            unended = λ p. let i = rw told at (count-upon c x (ends t r) (λ a. not a.over && p a) l found) in
                omega (arith, i, h.unended p);
            past = all-upon c x (ends t r) (Past now) l h.past (rw told (record { begun = λ i. h.plays.0.begun; over = λ i j. hm }));
            distinct = distinct-upon now c x (ends t r) (λ a. refl) (λ a. refl) l quiet found h.distinct;
          }

  -- a waiting one: it never counts
  pub end-waiting : Owned β now pr (s ∷ w) k l → Owned β now pr w k (heard t r l)
  end-waiting h = rw (heard-end c x t r e l) done
    where
      told : newest c x l ≡ airing false s
      told = h.waits.0.told

      quiet : (n : ℕ) → n < now → Quiet c x (ends t r) n (newest c x l)
      quiet n i = rw told (refl, refl)

      found : (newest c x l).over ≡ false
      found = rw told

      z : count (is c x) w + count (is c x) k ≡ 0
      z = omega (arith, h.once c x, ap bit (is-own s))

      kept : air_time now (upon c x (ends t r) l) (ends t r (airing false s)) ≡ s.played.0
      kept = time-unbegun now (upon c x (ends t r) l) (ends t r (airing false s)) refl ∙ sym h.waits.0.silent

      done : Owned β now pr w k (upon c x (ends t r) l)
      done =
          record {
            from = h.from;
            since = since-upon now c x (ends t r) (λ a. refl) (λ a. refl) l quiet β h.from found refl h.since;
            listed = listed-upon now c x (ends t r) (λ a. refl) (λ a. refl) l quiet found
                (rw told (record { over = λ i. refl; said = λ i. tells i ∙ ap (λ (n : ℕ). n / 100) (sym kept) })) h.listed;
            primary = primary-upon now c x (ends t r) (λ a. refl) (λ a. refl) l quiet ∙ h.primary;
            waits = waits-upon now c x (ends t r) (λ a. refl) (λ a. refl) l quiet w (omega (arith, z)) h.waits.1;
            plays = plays-upon now c x (ends t r) (λ a. refl) (λ a. refl) l quiet k (omega (arith, z)) h.plays;
            once = λ d y. omega (arith, h.once d y);
            live = λ p. let i = rw told at (count-upon c x (ends t r) (λ a. airs a && p a.access) l found) in
                omega (arith, i, h.live p);
            unended = λ p. let i = rw told at (count-upon c x (ends t r) (λ a. not a.over && p a) l found) in
                omega (arith, i, h.unended p);
            past = all-upon c x (ends t r) (Past now) l h.past (rw told
                (record { begun = λ i. absurd (clash false i refl); over = λ i j. absurd (clash false i refl) }));
            distinct = distinct-upon now c x (ends t r) (λ a. refl) (λ a. refl) l quiet found h.distinct;
          }

-- ## One start

time-never : (now : ℕ) (l : List Airing) (s : Session) → now ≤ s.start.0 → air_time now l (airing true s) ≡ 0
unfolding air_time
time-never now l s h = during-never now (λ n. top_at n l (airing true s)) (λ n i. rw (lt-leb s.start.0 n (omega arith)))

pub time-waiting : (now : ℕ) (l : List Airing) (s : Session) → air_time now l (airing false s) ≡ 0
time-waiting now l s = time-unbegun now l (airing false s) refl

module _ (β : Base) (now pr t : ℕ) (r : Record) (s : Session) (e : StartOf s.conn s.id r) (w k : List Session) (l : List Airing) where
  pub start-waiting : s.start.0 ≡ now → Owned β now pr (s ∷ w) k l → Owned β now pr w (s ∷ k) (heard t r l)
  start-waiting at-now h = rw (heard-start s.conn s.id t r e l) done
    where
      told : newest s.conn s.id l ≡ airing false s
      told = h.waits.0.told

      quiet : (n : ℕ) → n < now → Quiet s.conn s.id begins n (newest s.conn s.id l)
      quiet n i = rw (told, lt-leb s.start.0 n (omega arith)) (refl, refl)

      found : (newest s.conn s.id l).over ≡ false
      found = rw told

      z : count (is s.conn s.id) w + count (is s.conn s.id) k ≡ 0
      z = omega (arith, h.once s.conn s.id, ap bit (is-own s))

      done : Owned β now pr w (s ∷ k) (upon s.conn s.id begins l)
      done =
          record {
            from = h.from;
            since = since-upon now s.conn s.id begins (λ a. refl) (λ a. refl) l quiet β h.from found refl h.since;
            listed = listed-upon now s.conn s.id begins (λ a. refl) (λ a. refl) l quiet found
                (rw told (record { over = λ i. absurd (clash false i refl); said = λ i. absurd (clash false i refl) })) h.listed;
            primary = primary-upon now s.conn s.id begins (λ a. refl) (λ a. refl) l quiet ∙ h.primary;
            waits = waits-upon now s.conn s.id begins (λ a. refl) (λ a. refl) l quiet w (omega (arith, z)) h.waits.1;
            plays = (
              record {
                told = newest-same s.conn s.id begins (λ a. refl) (λ a. refl) l found ∙ ap begins told;
                begun = omega arith;
                played = time-never now (upon s.conn s.id begins l) s (omega arith) ∙ sym h.waits.0.silent;
              },
              plays-upon now s.conn s.id begins (λ a. refl) (λ a. refl) l quiet k (omega (arith, z)) h.plays,
            );
            once = λ d y. omega (arith, h.once d y);
            live = λ p. let i = rw told at (count-upon s.conn s.id begins (λ a. airs a && p a.access) l found) in
                omega (arith, i, h.live p);
            unended = λ p. let i = rw told at (count-upon s.conn s.id begins (λ a. not a.over && p a) l found) in
                omega (arith, i, h.unended p);
            past = all-upon s.conn s.id begins (Past now) l h.past
                (rw told (record { begun = λ i. omega arith; over = λ i o. absurd (clash false o refl) }));
            distinct = distinct-upon now s.conn s.id begins (λ a. refl) (λ a. refl) l quiet found h.distinct;
          }

-- ## One that is accepted

module _ (β : Base) (now pr : ℕ) (s : Session) (w k : List Session) (l : List Airing)
    (none : count (is s.conn s.id) w + count (is s.conn s.id) k ≡ 0) where
  abbrev j : List Airing
  j = airing false s ∷ l

  peak-more : (n : ℕ) → peak_at n j ≡ peak_at n l
  peak-more n = omega arith

  time-more : (a : Airing) → air_time now j a ≡ air_time now l a
  unfolding air_time
  time-more a = during-same now (λ n. top_at n j a) (λ n. top_at n l a) (λ n h. rw (peak-more n))

  pub primary-more : primary_time now j ≡ primary_time now l
  unfolding primary_time
  primary-more = refl

  newest-more : (u : Session) → is s.conn s.id u ≡ false → newest u.conn u.id j ≡ newest u.conn u.id l
  unfolding newest
  newest-more u e = rw e

  newest-new : newest s.conn s.id j ≡ airing false s
  unfolding newest
  newest-new = rw (eqb_same s.conn, eqb_same s.id)

  pub accept-new : s.played.0 ≡ 0 → Owned β now pr w k l → Owned β now pr (s ∷ w) k j
  accept-new silent h =
      record {
        from = h.from;
        since = newer (λ n i. refl) h.since;
        listed = (
          record { over = λ i. absurd (clash false i refl); said = λ i. absurd (clash false i refl) },
          all-into (Listed now l) (Listed now j) (λ a i. record {
            over = i.over;
            said =
                λ o. i.said o ∙ ap (λ (n : ℕ). n / 100) (sym (time-more a));
          }) l h.listed,
        );
        primary = primary-more ∙ h.primary;
        waits = (
          record { told = newest-new; silent = silent },
          all-into (λ u. (is s.conn s.id u ≡ false) × Waits l u) (Waits j)
              (λ u i. record { told = newest-more u i.0 ∙ i.1.told; silent = i.1.silent }) w
              (all_both (λ u. is s.conn s.id u ≡ false) (Waits l) w (all_none (is s.conn s.id) w (omega arith)) h.waits),
        );
        plays = all-into (λ u. (is s.conn s.id u ≡ false) × Plays now l u) (Plays now j)
            (λ u i. record {
              told = newest-more u i.0 ∙ i.1.told;
              begun = i.1.begun;
              played =
                  time-more (airing true u) ∙ i.1.played;
            }) k
            (all_both (λ u. is s.conn s.id u ≡ false) (Plays now l) k (all_none (is s.conn s.id) k (omega arith)) h.plays);
        once = λ d y. one d y (is d y s) refl;
        live = λ p. omega (arith, h.live p);
        unended = λ p. omega (arith, h.unended p);
        past = (record { begun = λ i. absurd (clash false i refl); over = λ i o. absurd (clash false i refl) }, h.past);
        distinct = λ n i v. omega (arith, h.distinct n i v);
      }
    where
      one : (d y : ℕ) (b : Bool) → is d y s ≡ b → bit (is d y s) + count (is d y) w + count (is d y) k ≤ 1
      one d y true e =
          let i = and_both (eqb d s.conn) (eqb y s.id) e in
          let z : count (is d y) w + count (is d y) k ≡ 0 = rw (eqb-true d s.conn i.0, eqb-true y s.id i.1) none in
          rw e (omega arith)
      one d y false e = rw e (omega (arith, h.once d y))

-- ## Time passes

module _ (β : Base) (now pr t : ℕ) (le : now ≤ t) (w k : List Session) (l : List Airing) (h : Owned β now pr w k l) where
  -- what is live from now on is what airs now
  live_on : (n : ℕ) → now ≤ n → (m : List Airing) → All (Past now) m → (p : ℕ → Bool)
      → count (λ a. live_at n a && p a.access) m ≡ count (λ a. airs a && p a.access) m
  live_on n i [] a p = refl
  live_on n i (x ∷ m) a p = rw (one x.begun refl x.over refl, live_on n i m a.1 p)
    where
      one : (b : Bool) → x.begun ≡ b → (o : Bool) → x.over ≡ o → live_at n x ≡ airs x
      one false e o f = rw e
      one true e false f = let g = a.0.begun e in rw (e, f, le-leb x.start n (omega arith))
      one true e true f = let g = a.0.over e f in rw (e, f, le-ltb n x.to (omega arith)) (and-false (leb x.start n))

  live-count : (n : ℕ) → now ≤ n → (p : ℕ → Bool) → count (λ a. live_at n a && p a.access) l ≡ count (λ s. p s.access) k
  live-count n i p = live_on n i l h.past p ∙ h.live p

-- AccessTypes that fall are each one's
falling-one : (v : ℕ) (k : List Session) → Falling k → count (λ s. eqb v (suc s.access)) k ≤ 1
falling-one v [] f = omega arith
falling-one v (s ∷ k) f = go (eqb v (suc s.access)) refl (falling-one v k f.1)
  where
    go : (b : Bool) → eqb v (suc s.access) ≡ b → count (λ s. eqb v (suc s.access)) k ≤ 1
        → bit b + count (λ s. eqb v (suc s.access)) k ≤ 1
    go false e ih = omega arith
    go true e ih =
        let i = eqb-true v (suc s.access) e in
        omega (
          arith,
          none-all (λ (u : Session). eqb v (suc u.access)) k
              (all-into (λ u. u.access < s.access) (λ u. eqb v (suc u.access) ≡ false)
              (λ u g. ne_eqb v (suc u.access) (λ o. omega arith)) k f.0),
        )

none-live : (n : ℕ) (l : List Airing) → count (λ a. live_at n a && true) l ≡ 0 → some (live_at n) l ≡ false
none-live n l e =
    none-some (live_at n) l (all-into (λ a. (live_at n a && true) ≡ false) (λ a. live_at n a ≡ false) (λ a h. off (live_at n a) h) l
    (all_none (λ a. live_at n a && true) l e))
  where
    off : (b : Bool) → (b && true) ≡ false → b ≡ false
    off true h = h
    off false h = h

one-live : (n : ℕ) (l : List Airing) → 0 < count (λ a. live_at n a && true) l → some (live_at n) l ≡ true
one-live n [] e = absurd (omega arith)
one-live n (a ∷ l) e = go (live_at n a) e (one-live n l)
  where
    go : (b : Bool) → 0 < bit (b && true) + count (λ a. live_at n a && true) l
        → (0 < count (λ a. live_at n a && true) l → some (live_at n) l ≡ true) → (b || some (live_at n) l) ≡ true
    go true e ih = refl
    go false e ih = ih (omega arith)

-- ## From now to t

module _ (now t : ℕ) (le : now ≤ t) where
  span : now + (t - now) ≡ t
  span = omega arith

  grows : (p : ℕ → Bool) (b : Bool) → ((n : ℕ) → now ≤ n → n < t → p n ≡ b) → during t p ≡ during now p + (t - now) * bit b
  grows p b f = ap (λ (m : ℕ). during m p) (sym span) ∙ during-on now (t - now) p b (λ n i j. f n i (omega arith))

  pub time-grows : (l : List Airing) (a : Airing) → air_time now l a ≤ air_time t l a
  unfolding air_time
  time-grows l a = more (λ n. top_at n l a)
    where
      up : (d : ℕ) (p : ℕ → Bool) → during now p ≤ during (now + d) p
      up zero p = let e : now + 0 ≡ now = omega arith in rw e (omega arith)
      up (suc d) p = let e : now + suc d ≡ suc (now + d) = omega arith in rw e (omega (arith, during-suc (now + d) p, up d p))

      more : (p : ℕ → Bool) → during now p ≤ during t p
      more p = rw (← span) (up (t - now) p)

  -- what is over has no more
  pub over-on : (l : List Airing) (a : Airing) → Past now a → a.over ≡ true → air_time t l a ≡ air_time now l a
  unfolding air_time
  over-on l a p o = omega (arith, grows (λ n. top_at n l a) false (λ n i j. rw (off n i a.begun refl)))
    where
      off : (n : ℕ) → now ≤ n → (b : Bool) → a.begun ≡ b → live_at n a ≡ false
      off n i false e = rw e
      off n i true e = let g = p.over e o in rw (e, o, le-ltb n a.to (omega arith)) (and-false (leb a.start n))

module _ (β : Base) (now pr t : ℕ) (le : now ≤ t) (w : List Session) (l : List Airing) where
  pub primary-on : (k : List Session) → Owned β now pr w k l → primary_time t l ≡ primary_time now l + silence (t - now) k
  unfolding primary_time
  primary-on [] h = omega (
    arith,
    grows now t le (λ n. not (some (live_at n) l)) true
        (λ n i j. rw (none-live n l (live-count β now pr t le w [] l h n i (λ y. true)))),
  )
  primary-on (s ∷ k) h =
      omega (
        arith,
        grows now t le (λ n. not (some (live_at n) l)) false
            (λ n i j. rw (one-live n l (omega (arith, live-count β now pr t le w (s ∷ k) l h n i (λ y. true))))),
      )

  -- the one on air has the highest AccessType, and the covered ones have not
  module _ (s : Session) (k : List Session) (fall : Falling (s ∷ k)) (h : Owned β now pr w (s ∷ k) l) where
    peak-on : (n : ℕ) → now ≤ n → peak_at n l ≡ suc s.access
    peak-on n i =
        let v = suc s.access in
        peak-is n v l (omega (arith, live-count β now pr t le w (s ∷ k) l h n i (λ y. eqb v (suc y)), ap bit (eqb_same v)))
        (live-count β now pr t le w (s ∷ k) l h n i (λ y. ltb v (suc y)) ∙ none-all (λ (u : Session). ltb v (suc u.access)) (s ∷ k) (
          le-ltb v v (omega arith),
          all-into (λ u. u.access < s.access) (λ u. ltb v (suc u.access) ≡ false)
              (λ u g. le-ltb v (suc u.access) (omega arith)) k fall.0,
        ))

    top-on : air_time t l (airing true s) ≡ air_time now l (airing true s) + (t - now)
    unfolding air_time
    top-on =
        let g = h.plays.0.begun in
        omega (
          arith,
          grows now t le (λ n. top_at n l (airing true s)) true
              (λ n i j. rw (peak-on n i, le-leb s.start.0 n (omega arith), eqb_same (suc s.access))),
        )

    covered-on : (u : Session) → u.access < s.access → air_time t l (airing true u) ≡ air_time now l (airing true u)
    unfolding air_time
    covered-on u g =
        omega (
          arith,
          grows now t le (λ n. top_at n l (airing true u)) false
              (λ n i j. rw (peak-on n i, ne_eqb (suc s.access) (suc u.access) (λ e. omega arith), and-false)),
        )

  listed-on : (m : List Airing) → All (Past now) m → All (Listed now l) m → All (Listed t l) m
  listed-on m a b =
      all-into (λ x. Past now x × Listed now l x) (Listed t l)
      (λ x i. record {
        over = i.1.over;
        said = λ o. i.1.said o ∙ ap (λ (n : ℕ). n / 100)
            (sym (over-on now t le l x i.0 (i.1.over o)));
      }) m (all_both (Past now) (Listed now l) m a b)

  plays-on : (k : List Session) → Falling k → Owned β now pr w k l → All (Plays t l) (on_air (t - now) k)
  unfolding on_air
  plays-on [] f h = tt
  plays-on (s ∷ k) f h = (
    record {
      told = h.plays.0.told;
      begun = omega (arith, h.plays.0.begun);
      played =
          omega (arith, top-on s k f h, h.plays.0.played);
    },
    all-into (λ u. (u.access < s.access) × Plays now l u) (Plays t l)
        (λ u i. record { told = i.1.told; begun = omega (arith, i.1.begun); played = covered-on s k f h u i.0 ∙ i.1.played }) k
        (all_both (λ u. u.access < s.access) (Plays now l) k f.0 h.plays.1),
  )

  pub time-passes : (k : List Session) → Falling k → Owned β now pr w k l → Owned β t (pr + silence (t - now) k) w (on_air (t - now) k) l
  time-passes k f h =
      record {
        from = omega (arith, h.from);
        since = h.since;
        listed = listed-on l h.past h.listed;
        primary = omega (arith, primary-on k h, h.primary);
        waits = h.waits;
        plays = plays-on k f h;
        once = λ c x. omega (arith, h.once c x, count-on_air (is c x) (λ e s. refl) (t - now) k);
        live = λ p. h.live p ∙ sym (count-on_air (λ s. p s.access) (λ e s. refl) (t - now) k);
        unended = λ p. omega (arith, h.unended p, count-on_air (λ s. p (airing true s)) (λ e s. refl) (t - now) k);
        past = all-into (Past now) (Past t) (λ a g. record {
          begun = λ i. omega (arith, g.begun i);
          over =
              λ i j. omega (arith, g.over i j);
        }) l h.past;
        distinct = λ n i v. one n v (ltb n now) refl;
      }
    where
      one : (n v : ℕ) (b : Bool) → ltb n now ≡ b → count (λ a. live_at n a && eqb v (suc a.access)) l ≤ 1
      one n v true e = h.distinct n (ltb-true n now e) v
      one n v false e = omega (arith, live-count β now pr t le w k l h n (ltb-false n now e) (λ y. eqb v (suc y)), falling-one v k f)

-- ## The same sessions in another order

pub reorder : (β : Base) (now pr : ℕ) (w k w' k' : List Session) (l : List Airing) → ((p : Session → Bool) → count p w' ≡ count p w)
    → ((p : Session → Bool) → count p k' ≡ count p k)
    → (All (Waits l) w → All (Waits l) w') → (All (Plays now l) k → All (Plays now l) k') → Owned β now pr w k l → Owned β now pr w' k' l
reorder β now pr w k w' k' l cw ck aw ak h =
    record {
      from = h.from;
      since = h.since;
      listed = h.listed;
      primary = h.primary;
      waits = aw h.waits;
      plays = ak h.plays;
      once = λ c x. omega (arith, h.once c x, cw (is c x), ck (is c x));
      live = λ p. h.live p ∙ sym (ck (λ s. p s.access));
      unended = λ p. omega (arith, h.unended p, cw (λ s. p (airing false s)), ck (λ s. p (airing true s)));
      past = h.past;
      distinct = h.distinct;
    }
