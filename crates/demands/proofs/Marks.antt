-- What a record tells of the accepted sessions: it marks the newest of its number and no other. Assumes nothing.
use mathlib.Core.Path.{◌≡◌, refl, ap, ◌∙◌}
use mathlib.Core.Bool.{Bool, true, false, cond, ◌||◌}
use mathlib.Core.List.{List, [], ◌∷◌, ◌++◌}
use Prim.Native.Nat.{ℕ, suc, ◌+◌, ◌≤◌, ◌<◌, max}
use native.Mathlib.Omega.{arith}
use lib.Dec.{eqb}
use borrow.Author.Tests.{eqb-true}
use Rattle.rules.specs.Lists.{All, bit, some, count}
use Rattle.rules.specs.State.{same_number}
use Rattle.rules.specs.Records.{Record, General, InitResponse, AliveResponse, SpliceResponse, SpliceComplete, AbortResponse, ConfigResponse}
use Rattle.rules.specs.Records.{ExtendedFound, ExtendedNone, CueRequest}
use Rattle.demands.specs.History.{is_start, is_end}
use Rattle.rules.proofs.Tests.{clash, and_both, eqb_same}
use Rattle.demands.specs.Airing.{Airing, airing_is, newest, begins, ends, marked, concerns, heard, by_then, heard_all, live_at, peak_at}

-- ## Records of one number

-- r is an end of number x of connection c
pub record EndOf (c x : ℕ) (r : Record) : Type 0 where
  pub ends : (d y : ℕ) → is_end d y r ≡ same_number d y c x
  pub starts : (d y : ℕ) → is_start d y r ≡ false

-- r is its start
pub record StartOf (c x : ℕ) (r : Record) : Type 0 where
  pub ends : (d y : ℕ) → is_end d y r ≡ false
  pub starts : (d y : ℕ) → is_start d y r ≡ same_number d y c x

-- f, to the newest of a number
unfoldable pub upon : ℕ → ℕ → (Airing → Airing) → List Airing → List Airing
upon c x f [] = []
upon c x f (a ∷ l) = cond (airing_is c x a) (f a ∷ l) (a ∷ upon c x f l)

pub heard-end : (c x t : ℕ) (r : Record) → EndOf c x r → (l : List Airing) → heard t r l ≡ upon c x (ends t r) l
unfolding heard upon
heard-end c x t r h [] = refl
heard-end c x t r h (a ∷ l) = go (airing_is c x a) refl (heard-end c x t r h l)
  where
    go : (b : Bool) → airing_is c x a ≡ b → heard t r l ≡ upon c x (ends t r) l
        → cond (concerns r a) (marked t r a ∷ l) (a ∷ heard t r l) ≡ cond b (ends t r a ∷ l) (a ∷ upon c x (ends t r) l)
    go true e ih = rw (h.starts a.conn a.id, h.ends a.conn a.id, e)
    go false e ih = rw (h.starts a.conn a.id, h.ends a.conn a.id, e, ih)

pub heard-start : (c x t : ℕ) (r : Record) → StartOf c x r → (l : List Airing) → heard t r l ≡ upon c x begins l
unfolding heard upon
heard-start c x t r h [] = refl
heard-start c x t r h (a ∷ l) = go (airing_is c x a) refl (heard-start c x t r h l)
  where
    go : (b : Bool) → airing_is c x a ≡ b → heard t r l ≡ upon c x begins l
        → cond (concerns r a) (marked t r a ∷ l) (a ∷ heard t r l) ≡ cond b (begins a ∷ l) (a ∷ upon c x begins l)
    go true e ih = rw (h.starts a.conn a.id, h.ends a.conn a.id, e)
    go false e ih = rw (h.starts a.conn a.id, h.ends a.conn a.id, e, ih)

-- what is neither tells nothing
pub heard-plain : (t : ℕ) (r : Record) → ((d y : ℕ) → is_start d y r ≡ false) → ((d y : ℕ) → is_end d y r ≡ false) → (l : List Airing)
    → heard t r l ≡ l
unfolding heard
heard-plain t r s e [] = refl
heard-plain t r s e (a ∷ l) = rw (s a.conn a.id, e a.conn a.id, heard-plain t r s e l)

-- two numbers differ either way round
pub other : (c x d y : ℕ) → same_number d y c x ≡ false → same_number c x d y ≡ false
other c x d y n = go (same_number c x d y) refl
  where
    go : (b : Bool) → same_number c x d y ≡ b → b ≡ false
    go true e =
        let h = and_both (eqb c d) (eqb x y) e in
        let i = eqb-true c d h.0 in
        let j = eqb-true x y h.1 in
        absurd (clash (same_number d y c x) (rw (i, j, eqb_same d, eqb_same y)) n)
    go false e = refl

-- ## The newest of a number is marked, and nothing else

module _ (c x : ℕ) (f : Airing → Airing) where
  -- what f leaves of the newest
  abbrev pub old : List Airing → Airing
  old l = newest c x l

  pub count-upon : (g : Airing → Bool) (l : List Airing) → (newest c x l).over ≡ false
      → count g (upon c x f l) + bit (g (newest c x l)) ≡ count g l + bit (g (f (newest c x l)))
  unfolding upon newest
  count-upon g [] e = absurd (clash true refl e)
  count-upon g (a ∷ l) e = go (airing_is c x a) e (count-upon g l)
    where
      go : (b : Bool) → (cond b a (newest c x l)).over ≡ false
          → ((newest c x l).over ≡ false → count g (upon c x f l) + bit (g (newest c x l)) ≡ count g l + bit (g (f (newest c x l))))
          → count g (cond b (f a ∷ l) (a ∷ upon c x f l)) + bit (g (cond b a (newest c x l))) ≡ bit (g a) + count g l
          + bit (g (f (cond b a (newest c x l))))
      go true e ih = omega arith
      go false e ih = omega (arith, ih e)

  pub all-upon : (P : Airing → Type 0) (l : List Airing) → All P l → P (f (newest c x l)) → All P (upon c x f l)
  unfolding upon newest
  all-upon P [] h k = tt
  all-upon P (a ∷ l) h k = go (airing_is c x a) k (all-upon P l h.1)
    where
      go : (b : Bool) → P (f (cond b a (newest c x l))) → (P (f (newest c x l)) → All P (upon c x f l))
          → All P (cond b (f a ∷ l) (a ∷ upon c x f l))
      go true k ih = (k, h.1)
      go false k ih = (h.0, ih k)

  -- f keeps the number
  module _ (conn : (a : Airing) → (f a).conn ≡ a.conn) (id : (a : Airing) → (f a).id ≡ a.id) where
    pub newest-same : (l : List Airing) → (newest c x l).over ≡ false → newest c x (upon c x f l) ≡ f (newest c x l)
    unfolding upon newest
    newest-same [] e = absurd (clash true refl e)
    newest-same (a ∷ l) e = go (airing_is c x a) refl e (newest-same l)
      where
        go : (b : Bool) → airing_is c x a ≡ b → (cond b a (newest c x l)).over ≡ false
            → ((newest c x l).over ≡ false → newest c x (upon c x f l) ≡ f (newest c x l))
            → newest c x (cond b (f a ∷ l) (a ∷ upon c x f l)) ≡ f (cond b a (newest c x l))
        go true k e ih = rw (conn a, id a, k)
        go false k e ih = rw (k, ih e)

    pub newest-other : (d y : ℕ) → same_number d y c x ≡ false → (l : List Airing) → newest d y (upon c x f l) ≡ newest d y l
    unfolding upon newest
    newest-other d y n [] = refl
    newest-other d y n (a ∷ l) = go (airing_is c x a) refl (newest-other d y n l)
      where
        go : (b : Bool) → airing_is c x a ≡ b → newest d y (upon c x f l) ≡ newest d y l
            → newest d y (cond b (f a ∷ l) (a ∷ upon c x f l)) ≡ cond (airing_is d y a) a (newest d y l)
        go true k ih =
            let h = and_both (eqb a.conn c) (eqb a.id x) k in
            let m : airing_is d y a ≡ false = rw (eqb-true a.conn c h.0, eqb-true a.id x h.1) (other c x d y n) in
            rw (conn a, id a, m)
        go false k ih = rw ih

  -- in the ninth n, f changes nothing
  module _ (n : ℕ) where
    abbrev pub Quiet : Airing → Type 0
    Quiet a = (live_at n (f a) ≡ live_at n a) × ((f a).access ≡ a.access)

    pub some-upon : (l : List Airing) → Quiet (newest c x l) → some (live_at n) (upon c x f l) ≡ some (live_at n) l
    unfolding upon newest
    some-upon [] h = refl
    some-upon (a ∷ l) h = go (airing_is c x a) h (some-upon l)
      where
        go : (b : Bool) → Quiet (cond b a (newest c x l)) → (Quiet (newest c x l) → some (live_at n) (upon c x f l) ≡ some (live_at n) l)
            → some (live_at n) (cond b (f a ∷ l) (a ∷ upon c x f l)) ≡ (live_at n a || some (live_at n) l)
        go true h ih = rw h.0
        go false h ih = rw (ih h)

    pub peak-upon : (l : List Airing) → Quiet (newest c x l) → peak_at n (upon c x f l) ≡ peak_at n l
    unfolding upon newest
    peak-upon [] h = refl
    peak-upon (a ∷ l) h = go (airing_is c x a) h (peak-upon l)
      where
        go : (b : Bool) → Quiet (cond b a (newest c x l)) → (Quiet (newest c x l) → peak_at n (upon c x f l) ≡ peak_at n l)
            → peak_at n (cond b (f a ∷ l) (a ∷ upon c x f l)) ≡ max (cond (live_at n a) (suc a.access) 0) (peak_at n l)
        go true h ih = rw (h.0, h.1)
        go false h ih = rw (ih h)

-- ## The start time of a number is as it was

newest-marked : (t : ℕ) (r : Record) (d y : ℕ) (a : Airing) (l : List Airing)
    → (newest d y (marked t r a ∷ l)).start ≡ (newest d y (a ∷ l)).start
unfolding newest
newest-marked t r d y a l = go (is_start a.conn a.id r) (is_end a.conn a.id r)
  where
    pick : (b : Airing) → b.start ≡ a.start → (k : Bool) → (cond k b (newest d y l)).start ≡ (cond k a (newest d y l)).start
    pick b g true = g
    pick b g false = refl

    go : (s e : Bool) → (newest d y (cond s (begins a) (cond e (ends t r a) a) ∷ l)).start ≡ (newest d y (a ∷ l)).start
    go true e = pick (begins a) refl (airing_is d y a)
    go false true = pick (ends t r a) refl (airing_is d y a)
    go false false = refl

pub start-heard : (t : ℕ) (r : Record) (l : List Airing) (d y : ℕ) → (newest d y (heard t r l)).start ≡ (newest d y l).start
unfolding heard newest
start-heard t r [] d y = refl
start-heard t r (a ∷ l) d y = go (concerns r a) (start-heard t r l d y)
  where
    go : (b : Bool) → (newest d y (heard t r l)).start ≡ (newest d y l).start
        → (newest d y (cond b (marked t r a ∷ l) (a ∷ heard t r l))).start ≡ (cond (airing_is d y a) a (newest d y l)).start
    go true ih = newest-marked t r d y a l
    go false ih = rest (airing_is d y a) ih
      where
        rest : (b : Bool) → (newest d y (heard t r l)).start ≡ (newest d y l).start
            → (cond b a (newest d y (heard t r l))).start ≡ (cond b a (newest d y l)).start
        rest true ih = refl
        rest false ih = ih

pub start-heard_all : (u : ℕ) (rs : List Record) (l : List Airing) (d y : ℕ) → (newest d y (heard_all u rs l)).start ≡ (newest d y l).start
unfolding heard_all
start-heard_all u [] l d y = refl
start-heard_all u (r ∷ rs) l d y = start-heard_all u rs (heard (by_then u l rs) r l) d y ∙ start-heard (by_then u l rs) r l d y

-- ## Looking ahead

pub by_then-same : (u : ℕ) (l m : List Airing) → ((d y : ℕ) → (newest d y m).start ≡ (newest d y l).start) → (rs : List Record)
    → by_then u m rs ≡ by_then u l rs
unfolding by_then
by_then-same u l m h [] = refl
by_then-same u l m h (General c r ∷ rs) = by_then-same u l m h rs
by_then-same u l m h (InitResponse c r n ∷ rs) = by_then-same u l m h rs
by_then-same u l m h (AliveResponse c r a y t ∷ rs) = by_then-same u l m h rs
by_then-same u l m h (SpliceResponse c r y ∷ rs) = by_then-same u l m h rs
by_then-same u l m h (SpliceComplete c r y f d ∷ rs) = rw (h c y, by_then-same u l m h rs)
by_then-same u l m h (AbortResponse c r y ∷ rs) = by_then-same u l m h rs
by_then-same u l m h (CueRequest c a v b ∷ rs) = by_then-same u l m h rs
by_then-same u l m h (ExtendedFound c y event ended played ∷ rs) = by_then-same u l m h rs
by_then-same u l m h (ExtendedNone c y ∷ rs) = by_then-same u l m h rs
by_then-same u l m h (ConfigResponse c r n k p ∷ rs) = by_then-same u l m h rs

pub by_then-append : (u : ℕ) (l : List Airing) (rs ss : List Record) → by_then u l (rs ++ ss) ≡ by_then (by_then u l ss) l rs
unfolding by_then
by_then-append u l [] ss = refl
by_then-append u l (General c r ∷ rs) ss = by_then-append u l rs ss
by_then-append u l (InitResponse c r n ∷ rs) ss = by_then-append u l rs ss
by_then-append u l (AliveResponse c r a y t ∷ rs) ss = by_then-append u l rs ss
by_then-append u l (SpliceResponse c r y ∷ rs) ss = by_then-append u l rs ss
by_then-append u l (SpliceComplete c r y f d ∷ rs) ss = rw (by_then-append u l rs ss)
by_then-append u l (AbortResponse c r y ∷ rs) ss = by_then-append u l rs ss
by_then-append u l (CueRequest c a v b ∷ rs) ss = by_then-append u l rs ss
by_then-append u l (ExtendedFound c y event ended played ∷ rs) ss = by_then-append u l rs ss
by_then-append u l (ExtendedNone c y ∷ rs) ss = by_then-append u l rs ss
by_then-append u l (ConfigResponse c r n k p ∷ rs) ss = by_then-append u l rs ss

-- some records and then more: what comes first is over by what comes next
pub heard_all-append : (u : ℕ) (rs ss : List Record) (l : List Airing) → heard_all u (rs ++ ss) l
    ≡ heard_all u ss (heard_all (by_then u l ss) rs l)
unfolding heard_all
heard_all-append u [] ss l = refl
heard_all-append u (r ∷ rs) ss l =
    let m = heard (by_then (by_then u l ss) l rs) r l in
    ap (λ t. heard_all u (rs ++ ss) (heard t r l)) (by_then-append u l rs ss)
    ∙ (heard_all-append u rs ss m ∙ ap (λ t. heard_all u ss (heard_all t rs m))
    (by_then-same u l m (λ d y. start-heard (by_then (by_then u l ss) l rs) r l d y) ss))

-- no flag 0 among them is of a session that starts before t
unfoldable pub Late : ℕ → List Airing → Record → Type 0
Late t l (General c r) = Unit {0}
Late t l (InitResponse c r n) = Unit {0}
Late t l (AliveResponse c r a y u) = Unit {0}
Late t l (SpliceResponse c r y) = Unit {0}
Late t l (SpliceComplete c r y f d) = eqb f 0 ≡ true → t ≤ (newest c y l).start
Late t l (AbortResponse c r y) = Unit {0}
Late t l (CueRequest c a v b) = Unit {0}
Late t l (ExtendedFound c y event ended played) = Unit {0}
Late t l (ExtendedNone c y) = Unit {0}
Late t l (ConfigResponse c r n k p) = Unit {0}

pub by_then-late : (t u : ℕ) (l : List Airing) (rs : List Record) → t ≤ u → All (Late t l) rs → t ≤ by_then u l rs
unfolding by_then Late
by_then-late t u l [] h a = h
by_then-late t u l (General c r ∷ rs) h a = by_then-late t u l rs h a.1
by_then-late t u l (InitResponse c r n ∷ rs) h a = by_then-late t u l rs h a.1
by_then-late t u l (AliveResponse c r n y d ∷ rs) h a = by_then-late t u l rs h a.1
by_then-late t u l (SpliceResponse c r y ∷ rs) h a = by_then-late t u l rs h a.1
by_then-late t u l (SpliceComplete c r y f d ∷ rs) h a = go (eqb f 0) a.0 (by_then-late t u l rs h a.1)
  where
    go : (b : Bool) → (b ≡ true → t ≤ (newest c y l).start) → t ≤ by_then u l rs → t ≤ cond b (newest c y l).start (by_then u l rs)
    go true k ih = k refl
    go false k ih = ih
by_then-late t u l (AbortResponse c r y ∷ rs) h a = by_then-late t u l rs h a.1
by_then-late t u l (CueRequest c d v b ∷ rs) h a = by_then-late t u l rs h a.1
by_then-late t u l (ExtendedFound c y event ended played ∷ rs) h a = by_then-late t u l rs h a.1
by_then-late t u l (ExtendedNone c y ∷ rs) h a = by_then-late t u l rs h a.1
by_then-late t u l (ConfigResponse c r n k p ∷ rs) h a = by_then-late t u l rs h a.1

-- ## What was told stays told

-- a session of a history at the time now, and the same in a later one
pub record Stays (now : ℕ) (a b : Airing) : Type 0 where
  pub conn : b.conn ≡ a.conn
  pub id : b.id ≡ a.id
  pub access : b.access ≡ a.access
  pub fixed : a.over ≡ true → b ≡ a
  pub quiet : (n : ℕ) → n < now → live_at n b ≡ live_at n a

pub data Onward (now : ℕ) : List Airing → List Airing → Type 0 where
  nothing : Onward now [] []
  newer : {a : Airing} {l m : List Airing} → ((n : ℕ) → n < now → live_at n a ≡ false) → Onward now l m → Onward now l (a ∷ m)
  stays : {a b : Airing} {l m : List Airing} → Stays now a b → Onward now l m → Onward now (a ∷ l) (b ∷ m)

stays_same : (now : ℕ) (a : Airing) → Stays now a a
stays_same now a = record { conn = refl; id = refl; access = refl; fixed = λ e. refl; quiet = λ n h. refl }

pub onward-same : (now : ℕ) (l : List Airing) → Onward now l l
onward-same now [] = nothing
onward-same now (a ∷ l) = stays (stays_same now a) (onward-same now l)

stays_then : (n m : ℕ) → n ≤ m → (a b c : Airing) → Stays n a b → Stays m b c → Stays n a c
stays_then n m le a b c h k =
    record {
      conn = k.conn ∙ h.conn;
      id = k.id ∙ h.id;
      access = k.access ∙ h.access;
      fixed = λ e. let f = h.fixed e in let g : b.over ≡ true = rw f e in k.fixed g ∙ f;
      quiet = λ i l. k.quiet i (omega arith) ∙ h.quiet i l;
    }

pub onward_then : (n m : ℕ) → n ≤ m → {a b c : List Airing} → Onward n a b → Onward m b c → Onward n a c
onward_then n m le h (newer q k) = newer (λ i l. q i (omega arith)) (onward_then n m le h k)
onward_then n m le nothing nothing = nothing
onward_then n m le (newer q h) (stays s k) = newer (λ i l. s.quiet i (omega arith) ∙ q i l) (onward_then n m le h k)
onward_then n m le (stays {a = a} {b = b} s h) (stays {b = c} t k) = stays (stays_then n m le a b c s t) (onward_then n m le h k)

module _ (now c x : ℕ) (f : Airing → Airing) (conn : (a : Airing) → (f a).conn ≡ a.conn) (id : (a : Airing) → (f a).id ≡ a.id) where
  pub onward-upon : (l : List Airing) → (newest c x l).over ≡ false → ((n : ℕ) → n < now → Quiet c x f n (newest c x l))
      → (f (newest c x l)).access ≡ (newest c x l).access
      → Onward now l (upon c x f l)
  unfolding upon newest
  onward-upon [] e q g = absurd (clash true refl e)
  onward-upon (a ∷ l) e q g = go (airing_is c x a) e q g (onward-upon l)
    where
      go : (b : Bool) → (cond b a (newest c x l)).over ≡ false → ((n : ℕ) → n < now → Quiet c x f n (cond b a (newest c x l)))
          → (f (cond b a (newest c x l))).access ≡ (cond b a (newest c x l)).access
          → ((newest c x l).over ≡ false → ((n : ℕ) → n < now → Quiet c x f n (newest c x l))
          → (f (newest c x l)).access ≡ (newest c x l).access → Onward now l (upon c x f l))
          → Onward now (a ∷ l) (cond b (f a ∷ l) (a ∷ upon c x f l))
      go true e q g ih =
          stays (record { conn = conn a; id = id a; access = g; fixed = λ o. absurd (clash a.over o e); quiet = λ n h. (q n h).0 })
          (onward-same now l)
      go false e q g ih = stays (stays_same now a) (ih e q g)

-- the past is as it was
pub peak-onward : (now n : ℕ) → n < now → {l m : List Airing} → Onward now l m → peak_at n m ≡ peak_at n l
peak-onward now n h nothing = refl
peak-onward now n h (newer q k) = rw (q n h, peak-onward now n h k) (omega arith)
peak-onward now n h (stays s k) = rw (s.quiet n h, s.access, peak-onward now n h k)
