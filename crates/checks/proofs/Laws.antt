-- Laws behind the checks of a request: where a number is held, what start is known, the waiting with one start, the room that is left.
-- Rests on the rules' laws of places and counts, and on the counts of `memory`.
use mathlib.Core.Path.{◌≡◌, refl, sym, ap, subst, ◌∙◌}
use mathlib.Core.Bool.{Bool, true, false, cond, not, ◌&&◌, ◌||◌}
use mathlib.Core.List.{List, [], ◌∷◌, ◌++◌}
use Prim.Native.Nat.{ℕ, suc, ◌+◌, ◌-◌, ◌≤◌, ◌<◌}
use native.Mathlib.Omega.{arith}
use lib.Dec.{eqb, ltb}
use lib.ListN.{length, get_or, length-append, get_or-append}
use lib.Seq.{get_or-append-add}
use borrow.Author.Tests.{ltb-true, ltb-false, leb-true, leb-false, eqb-true, eqb-false, lt-ltb, le-ltb, eq-eqb, ne_eqb, le-leb, lt-leb}
use Rattle.rules.specs.declared.Session.{Session}
use Rattle.rules.specs.declared.Start.{Start}
use Rattle.rules.specs.declared.Start.TheVariants.{Timed, Linked}
use Rattle.rules.specs.declared.Request.{Request}
use Rattle.rules.specs.declared.Ninths.{Ninths}
use Rattle.rules.specs.Units.{from_ticks}
use Rattle.rules.specs.Bytes.{part}
use Rattle.rules.specs.Request.{nobody}
use Rattle.rules.specs.Lists.{All, bit, some, place, remove_at}
use Rattle.rules.specs.State.{Queue, empty, of, is, starts_at, starts_after, held, holds}
use Rattle.rules.specs.Follows.Wires.{Sorted}
use Rattle.rules.specs.Instants.{outranks}
use Rattle.rules.specs.Splicing.{end_of, start_of, unknown_prior, wrong_number, collides, waits, raised, full, splice_result, session_at}
use Rattle.rules.specs.Follows.Sound.{raised_sum}
use Rattle.rules.specs.Splicing.{prior_of, too_late}
use Rattle.rules.specs.Follows.Sound.{held_count, Once}
use Rattle.rules.proofs.Tests.{clash, by}
use Rattle.rules.proofs.All.{all-into}
use Rattle.rules.proofs.Count.{count≤length, count-remove_at, place-holds, some-none, some-place}
use Rattle.rules.proofs.Every.{all_get_d, all_none}
use Rattle.places.specs.Places.{starts_from}
use Rattle.places.proofs.Laws.{used-fits}
use Rattle.memory.specs.declared.Which.{Which}
use Rattle.memory.specs.declared.Which.TheVariants.{Waiting, Started}
use Rattle.memory.specs.Memory.{slot_of, ring_of, from_of, to_of, places_of, tallied, Form, see, sessions, list_of, listed}
use Rattle.memory.proofs.Laws.{sessions-list, counted, room_at, tallied-at}
use Rattle.std.specs.Prelude.{Option, Some, None, is_some, sum_by, ◌^◌}
use Rattle.checks.specs.declared.Place.{Place}
use Rattle.checks.specs.Found.{placed, where_in, end_in, start_in, Few}

-- ## The first that passes, of two lists

module _ {A : Type 0} (p : A → Bool) where
  place-front : (a b : List A) → place p a < length a → place p (a ++ b) ≡ place p a
  unfolding place
  place-front [] b h = absurd (omega arith)
  place-front (x ∷ a) b h = go (p x) (place-front a b) h
    where
      go : (t : Bool) → (place p a < length a → place p (a ++ b) ≡ place p a) → cond t 0 (suc (place p a)) < suc (length a)
          → cond t 0 (suc (place p (a ++ b))) ≡ cond t 0 (suc (place p a))
      go true ih k = refl
      go false ih k = ap suc (ih (omega arith))

  place-behind : (a b : List A) → length a ≤ place p a → place p (a ++ b) ≡ length a + place p b
  unfolding place
  place-behind [] b h = omega arith
  place-behind (x ∷ a) b h = go (p x) (place-behind a b) h
    where
      go : (t : Bool) → (length a ≤ place p a → place p (a ++ b) ≡ length a + place p b) → suc (length a) ≤ cond t 0 (suc (place p a))
          → cond t 0 (suc (place p (a ++ b))) ≡ suc (length a) + place p b
      go true ih k = absurd (omega arith)
      go false ih k = omega (arith, ih (omega arith))

  -- one that passes is at its place
  some-within : (l : List A) → some p l ≡ true → place p l < length l
  some-within l h = ltb-true _ _ (sym (some-place p l) ∙ h)

-- ## Where a number is held

-- connection c's number x is found at the place i of a list
pub record HeldAt (c x : ℕ) (q : Queue) (v : Which) (i : ℕ) : Type 0 where
  pub first : i ≡ place (is c x) (list_of v q)
  pub within : i < length (list_of v q)
  pub passes : is c x (get_or (list_of v q) i empty) ≡ true
  pub known : holds c x q ≡ true
  pub found : get_or (held q) (place (is c x) (held q)) empty ≡ get_or (list_of v q) i empty

module _ (c x : ℕ) (q : Queue) where
  abbrev i : ℕ
  i = place (is c x) q.waiting

  abbrev j : ℕ
  j = place (is c x) q.started

  abbrev n : ℕ
  n = place (is c x) (held q)

  both : length (held q) ≡ length q.waiting + length q.started
  both = length-append q.waiting q.started

  -- a fact of where it is, from the fact of each place
  by-where : (P : Option Place → Type 0) → (i < length q.waiting → P (Some (placed Waiting i)))
      → (length q.waiting ≤ i → j < length q.started → P (Some (placed Started j)))
      → (length q.waiting ≤ i → length q.started ≤ j → P None) → P (where_in c x q)
  unfolding where_in
  by-where P f g h =
      by P (ltb i (length q.waiting)) _ _ (λ e. f (ltb-true _ _ e))
      (λ e. by P (ltb j (length q.started)) _ _ (λ d. g (ltb-false _ _ e) (ltb-true _ _ d)) (λ d. h (ltb-false _ _ e) (ltb-false _ _ d)))

  known_at : n < length (held q) → holds c x q ≡ true
  known_at h = some-place (is c x) (held q) ∙ lt-ltb n (length (held q)) h

  -- what is told of each place
  abbrev Told : Option Place → Type 0
  Told (Some p) = HeldAt c x q p.which p.at
  Told None = holds c x q ≡ false

  told : Told (where_in c x q)
  told =
      by-where Told
      (λ h.
      let e = place-front (is c x) q.waiting q.started h in
      record {
        first = refl;
        within = h;
        passes = place-holds (is c x) q.waiting empty h;
        known = known_at (omega (arith, e, both));
        found = ap (λ k. get_or (held q) k empty) e ∙ get_or-append q.waiting q.started empty i h;
      })
      (λ l h.
      let e = place-behind (is c x) q.waiting q.started l in
      record {
        first = refl;
        within = h;
        passes = place-holds (is c x) q.started empty h;
        known = known_at (omega (arith, e, both));
        found = ap (λ k. get_or (held q) k empty) e ∙ get_or-append-add q.waiting q.started j empty;
      })
      (λ l h.
      let e = place-behind (is c x) q.waiting q.started l in
      some-place (is c x) (held q) ∙ le-ltb n (length (held q)) (omega (arith, e, both)))

  pub held_at : {p : Place} → where_in c x q ≡ Some p → HeldAt c x q p.which p.at
  held_at e = subst Told e told

  pub held_some : is_some (where_in c x q) ≡ holds c x q
  held_some = go (where_in c x q) told
    where
      go : (o : Option Place) → Told o → is_some o ≡ holds c x q
      go (Some p) h = sym h.known
      go None h = sym h

  pub held-nowhere : where_in c x q ≡ None → holds c x q ≡ false
  held-nowhere e = subst Told e told

  -- a number is held once: no other session has it
  pub held-alone : (v : Which) (k : ℕ) → Once q → HeldAt c x q v k → held_count (listed v (remove_at k (list_of v q)) q) (is c x) ≡ 0
  held-alone Waiting k once h = omega (arith, once c x, count-remove_at (is c x) k q.waiting empty h.within, ap bit h.passes)
  held-alone Started k once h = omega (arith, once c x, count-remove_at (is c x) k q.started empty h.within, ap bit h.passes)

-- ## The start

module _ (c : ℕ) where
  pub start-known : (s : Start) (q : Queue) {t : Ninths} → start_in c s q ≡ Some t → (unknown_prior c s q ≡ false) × (start_of c s q ≡ t.0)
  unfolding start_in end_in start_of unknown_prior
  start-known (Timed m) q e = (refl, cc)
  start-known (Linked p) q {t} e = go (holds c p q) e
    where
      go : (b : Bool) → cond {A = Option Ninths} b (Some (record { 0 = end_of c p (held q) })) None ≡ Some t → (not b ≡ false)
          × (end_of c p (held q) ≡ t.0)
      go true f = (refl, cc)
      go false f = let z : ◌≡◌ {A = ℕ} 0 1 = cc in absurd (omega arith)

  pub start_none : (s : Start) (q : Queue) → start_in c s q ≡ None → unknown_prior c s q ≡ true
  unfolding start_in end_in unknown_prior
  start_none (Timed m) q e = let z : ◌≡◌ {A = ℕ} 0 1 = cc in absurd (omega arith)
  start_none (Linked p) q e = go (holds c p q) e
    where
      go : (b : Bool) → cond {A = Option Ninths} b (Some (record { 0 = end_of c p (held q) })) None ≡ None → not b ≡ true
      go true f = let z : ◌≡◌ {A = ℕ} 0 1 = cc in absurd (omega arith)
      go false f = refl

-- ## As the code has it

-- the two searches of `where_held`: k wait, and d have started
module _ (c x : ℕ) (q : Queue) {i k : ℕ} (a : i ≡ place (is c x) q.waiting) (e : k ≡ length q.waiting) where
  pub found-waiting : i < k → Some (placed Waiting i) ≡ where_in c x q
  unfolding where_in
  found-waiting l = rw (lt-ltb (place (is c x) q.waiting) (length q.waiting) (omega arith)) (ap (λ (k : ℕ). Some (placed Waiting k)) a)

  module _ (l : k ≤ i) {j d : ℕ} (b : j ≡ place (is c x) q.started) (f : d ≡ length q.started) where
    none-waits : ltb (place (is c x) q.waiting) (length q.waiting) ≡ false
    none-waits = le-ltb (place (is c x) q.waiting) (length q.waiting) (omega arith)

    pub found-started : j < d → Some (placed Started j) ≡ where_in c x q
    unfolding where_in
    found-started h = rw (none-waits, lt-ltb (place (is c x) q.started) (length q.started) (omega arith))
        (ap (λ (k : ℕ). Some (placed Started k)) b)

    pub found_nowhere : d ≤ j → None ≡ where_in c x q
    unfolding where_in
    found_nowhere h = rw (none-waits, le-ltb (place (is c x) q.started) (length q.started) (omega arith))

module _ (c x : ℕ) (m : List ℕ) {v : Which} {i : ℕ} (h : HeldAt c x (see m).queue v i) where
  -- what is found can be loaded
  pub found_within : i < length (sessions v m)
  found_within = omega (arith, h.within, ap length (sessions-list v m))

  pub found-end : (s : Session) → s ≡ get_or (sessions v m) i empty → Some s.end ≡ end_in c x (see m).queue
  unfolding end_in
  found-end s e =
      rw h.known
      (ap (λ (u : Session). Some u.end) (e ∙ ap (λ (l : List Session). get_or l i empty) (sessions-list v m) ∙ sym h.found))

pub no_end : (c x : ℕ) (q : Queue) → holds c x q ≡ false → None ≡ end_in c x q
unfolding end_in
no_end c x q h = rw h

-- ## d. No two that wait start together, so the first from a start on decides

none-at : (p : Session → Bool) (t : ℕ) (w : List Session) → All (λ u. starts_at t u ≡ false) w → some (λ u. starts_at t u && p u) w ≡ false
none-at p t [] a = refl
none-at p t (u ∷ w) a = rw a.0 (none-at p t w a.1)

start-at : (p : Session → Bool) (t : ℕ) (w : List Session) → Sorted w → place (starts_at t) w < length w
    → some (λ u. starts_at t u && p u) w ≡ p (get_or w (place (starts_at t) w) empty)
unfolding place
start-at p t [] o h = absurd (omega arith)
start-at p t (s ∷ w) o h = go (starts_at t s) refl (start-at p t w o.1) h
  where
    others : starts_at t s ≡ true → All (λ u. starts_at t u ≡ false) w
    others e =
        let i = eqb-true t s.start.0 e in
        all-into (λ u. s.start.0 < u.start.0) (λ u. starts_at t u ≡ false) (λ u l. ne_eqb t u.start.0 (λ f. omega arith)) w o.0

    or-false : (b : Bool) → (b || false) ≡ b
    or-false true = refl
    or-false false = refl

    go : (b : Bool) → starts_at t s ≡ b
        → (place (starts_at t) w < length w → some (λ u. starts_at t u && p u) w ≡ p (get_or w (place (starts_at t) w) empty))
        → cond b 0 (suc (place (starts_at t) w)) < suc (length w)
        → ((b && p s) || some (λ u. starts_at t u && p u) w) ≡ p (get_or (s ∷ w) (cond b 0 (suc (place (starts_at t) w))) empty)
    go true e ih k = rw (none-at p t w (others e)) (or-false (p s))
    go false e ih k = ih (omega arith)

module _ (t : ℕ) (u : List Session) where
  none-starts : some (starts_at t) u ≡ false → All (λ s. starts_at t s ≡ false) u
  none-starts h = all_none (starts_at t) u (some-none (starts_at t) u h)

-- one that starts at t is the first from t on
pub taken_at : (t : ℕ) (u : List Session) → Sorted u → some (starts_at t) u ≡ true → place (starts_at t) u ≡ place (starts_from t) u
unfolding place
taken_at t [] o h = absurd (clash false h refl)
taken_at t (s ∷ u) o h = go (starts_at t s) refl (taken_at t u o.1) h
  where
    earlier : some (starts_at t) u ≡ true → s.start.0 < t
    earlier k =
        let l = some-within (starts_at t) u k in
        let e = eqb-true t (get_or u (place (starts_at t) u) empty).start.0 (place-holds (starts_at t) u empty l) in
        omega (arith, all_get_d (λ v. s.start.0 < v.start.0) u (place (starts_at t) u) empty l o.0)

    go : (b : Bool) → starts_at t s ≡ b → (some (starts_at t) u ≡ true → place (starts_at t) u ≡ place (starts_from t) u)
        → (b || some (starts_at t) u) ≡ true
        → cond b 0 (suc (place (starts_at t) u)) ≡ cond (starts_from t s) 0 (suc (place (starts_from t) u))
    go true e ih k = rw (le-leb t s.start.0 (omega (arith, eqb-true t s.start.0 e)))
    go false e ih k = rw (lt-leb t s.start.0 (earlier k)) (ap suc (ih k))

-- where none starts at t, those from t on start after it
pub free-at : (t : ℕ) (u : List Session) → some (starts_at t) u ≡ false → place (starts_after t) u ≡ place (starts_from t) u
unfolding place
free-at t u h = same u (none-starts t u h)
  where
    after : (s : Session) → starts_at t s ≡ false → (b : Bool) → starts_from t s ≡ b → starts_after t s ≡ b
    after s e true f =
        let n = eqb-false t s.start.0 e in
        let l = leb-true t s.start.0 f in
        lt-ltb t s.start.0 (omega arith)
    after s e false f = le-ltb t s.start.0 (omega (arith, leb-false t s.start.0 f))

    same : (u : List Session) → All (λ s. starts_at t s ≡ false) u → place (starts_after t) u ≡ place (starts_from t) u
    same [] a = refl
    same (s ∷ u) a = rw (after s a.0 (starts_from t s) refl, same u a.1)

-- i is the place of the first of u from t on
module _ (t : ℕ) (u : List Session) (o : Sorted u) {i : ℕ} (f : i ≡ place (starts_from t) u) where
  pub taken-within : {b : Bool} → b ≡ some (starts_at t) u → b ≡ true → i < length u
  taken-within e h =
      let k = sym e ∙ h in
      omega (arith, taken_at t u o k, some-within (starts_at t) u k)

  -- n sessions wait
  module _ {n : ℕ} (c : n ≡ length u) where
    pub taken_here : (x : Session) → i < n → x ≡ get_or u i empty → starts_at t x ≡ some (starts_at t) u
    taken_here x h e = go (some (starts_at t) u) refl
      where
        go : (b : Bool) → some (starts_at t) u ≡ b → starts_at t x ≡ b
        go true k =
            ap (starts_at t) (e ∙ ap (λ (j : ℕ). get_or u j empty) (f ∙ sym (taken_at t u o k)))
            ∙ place-holds (starts_at t) u empty (some-within (starts_at t) u k)
        go false k = ap (starts_at t) e ∙ all_get_d (λ s. starts_at t s ≡ false) u i empty (omega arith) (none-starts t u k)

    pub taken_none : n ≤ i → false ≡ some (starts_at t) u
    taken_none h = go (some (starts_at t) u) refl
      where
        go : (b : Bool) → some (starts_at t) u ≡ b → false ≡ b
        go true k = absurd (omega (arith, taken-within (sym k) refl))
        go false k = refl

module _ (new : Session) (u : List Session) {b : Bool} (f : b ≡ some (starts_at new.start.0) u) where
  pub collides-none : b ≡ false → false ≡ collides new u
  unfolding collides
  collides-none h = sym (none-at (λ s. not (outranks new s)) new.start.0 u (none-starts new.start.0 u (sym f ∙ h)))

  pub collides-at : {i : ℕ} {old : Session} {r : Bool} → Sorted u → i ≡ place (starts_from new.start.0) u → b ≡ true
      → old ≡ get_or u i empty → r ≡ outranks new old → not r ≡ collides new u
  unfolding collides
  collides-at o j h e q =
      let t = new.start.0 in
      let k = sym f ∙ h in
      ap not q
      ∙ ap (λ (s : Session). not (outranks new s)) (e ∙ ap (λ (n : ℕ). get_or u n empty) (j ∙ sym (taken_at t u o k)))
      ∙ sym (start-at (λ s. not (outranks new s)) t u o (some-within (starts_at t) u k))

-- ## e. The counts

-- no more wait than there are places
pub waiting-fits : (m : List ℕ) → Form m → length (sessions Waiting m) ≤ places_of Waiting
waiting-fits m f =
    let v = Waiting in
    let fits = used-fits (part (from_of v) (to_of v - from_of v) m) (ring_of v m) (get_or m (slot_of v) 0) f.waiting in
    omega (arith, counted v m f, room_at v refl refl f)

pub few-each : (t : List ℕ) → Few t → (get_or t 0 0 ≤ 64) × (get_or t 1 0 ≤ 64) × (get_or t 2 0 ≤ 64) × (get_or t 3 0 ≤ 64)
few-each t f = (f 0 (omega arith), f 1 (omega arith), f 2 (omega arith), f 3 (omega arith))

module _ (w : List Session) {t : List ℕ} (e : t ≡ tallied w) where
  tally-few : length w ≤ places_of Waiting → Few t
  tally-few l c h = rw (e, tallied-at w c h) (omega (arith, count≤length (of c) w))

  raised-all : sum_by raised t ≡ raised_sum w
  unfolding tallied
  raised-all = rw e (omega arith)

  pub sum-fits : length w ≤ places_of Waiting → sum_by raised t < 2 ^ 64
  unfolding tallied
  sum-fits l =
      let n = few-each (tallied w) (subst Few e (tally-few l)) in
      let f : raised_sum w < 2 ^ 64 = omega (arith, n) in
      omega (arith, raised-all, f)

  module _ (c : ℕ) (low : c ≤ 3) where
    counts : get_or t c 0 ≡ waits c w
    counts = rw e (tallied-at w c low)

    pub full-twenty : get_or t c 0 ≡ 20 → true ≡ full c w
    unfolding full
    full-twenty h = rw (eq-eqb (waits c w) 20 (sym counts ∙ h))

    pub full-few : (get_or t c 0 ≡ 20 → ⊥) → get_or t c 0 < 10 → false ≡ full c w
    unfolding full
    full-few h l = rw (ne_eqb (waits c w) 20 (λ f. h (counts ∙ f)), lt-leb 10 (waits c w) (omega (arith, counts)))

    pub full-sum : {s : ℕ} → (get_or t c 0 ≡ 20 → ⊥) → 10 ≤ get_or t c 0 → s ≡ sum_by raised t → eqb s 64 ≡ full c w
    unfolding full
    full-sum h l f = rw (ne_eqb (waits c w) 20 (λ z. h (counts ∙ z)), le-leb 10 (waits c w) (omega (arith, counts)), f ∙ raised-all)

-- ## "with the first that applies"

-- b, as the code asks it
module _ (c x : ℕ) (q : Queue) where
  pub wrong-nobody : x ≡ nobody → true ≡ (eqb x nobody || holds c x q)
  wrong-nobody h = rw (eq-eqb x nobody h)

  pub wrong-held : {b : Bool} → (x ≡ nobody → ⊥) → b ≡ holds c x q → b ≡ (eqb x nobody || holds c x q)
  wrong-held h e = rw (ne_eqb x nobody h) e

-- b, where the start is known: the prior, if one is named, is held
wrong-is : (c : ℕ) (r : Request) (q : Queue) {t : Ninths} {b : Bool} → start_in c r.start q ≡ Some t
    → b ≡ (eqb r.id nobody || holds c r.id q) → b ≡ wrong_number c r q
wrong-is c r q e f = rw (start-known c r.start q e).0 (f ∙ go (eqb r.id nobody) (holds c r.id q))
  where
    go : (x y : Bool) → (x || y) ≡ (x || (y || false))
    go true y = refl
    go false true = refl
    go false false = refl

module _ (clock c : ℕ) (r : Request) (new : Session) (q : Queue) where
  -- b, where it is not
  pub result-none : start_in c r.start q ≡ None → 121 ≡ splice_result clock c r new q
  unfolding splice_result
  result-none e = rw (start_none c r.start q e) (go (eqb r.id nobody) (holds c r.id q) _)
    where
      go : (x y : Bool) (n : ℕ) → 121 ≡ cond (x || (y || true)) 121 n
      go true y n = refl
      go false true n = refl
      go false false n = refl

  -- the start is known, and each test gives what the code asks
  module _ {t : Ninths} (start : start_in c r.start q ≡ Some t) {b : Bool}
      (asked-b : b ≡ (eqb r.id nobody || holds c r.id q)) where
    is_b : b ≡ wrong_number c r q
    is_b = wrong-is c r q start asked-b

    pub result-121 : b ≡ true → 121 ≡ splice_result clock c r new q
    unfolding splice_result
    result-121 h = rw (← is_b, h)

    module _ (known : b ≡ false) {n : ℕ} (time : n ≡ clock) {l : Bool} (asked-c : l ≡ too_late n r.start) where
      is_c : l ≡ too_late clock r.start
      is_c = asked-c ∙ ap (λ k. too_late k r.start) time

      pub result-112 : l ≡ true → 112 ≡ splice_result clock c r new q
      unfolding splice_result
      result-112 h = rw (← is_b, known, ← is_c, h)

      module _ (soon : l ≡ false) {d : Bool} (is-d : d ≡ collides new q.waiting) where
        pub result-109 : d ≡ true → 109 ≡ splice_result clock c r new q
        unfolding splice_result
        result-109 h = rw (← is_b, known, ← is_c, soon, ← is-d, h)

        module _ (free : d ≡ false) {e : Bool} (is-e : e ≡ full c q.waiting) where
          pub result-114 : e ≡ true → 114 ≡ splice_result clock c r new q
          unfolding splice_result
          result-114 h = rw (← is_b, known, ← is_c, soon, ← is-d, free, ← is-e, h)

          pub result-100 : e ≡ false → 100 ≡ splice_result clock c r new q
          unfolding splice_result
          result-100 h = rw (← is_b, known, ← is_c, soon, ← is-d, free, ← is-e, h)

-- ## The session that is asked for

pub session-is : (t : Ninths) (c : ℕ) (r : Request) {p : ℕ} {d : Ninths} → p ≡ prior_of r.start → d ≡ from_ticks r.duration
    → record {
      conn = c;
      id = r.id;
      prior = p;
      start = t;
      end = record { 0 = t.0 + d.0 };
      access = r.access;
      overrides = r.overrides;
      mux = r.mux;
      event = r.event;
      played = record { 0 = 0 };
    }
    ≡ session_at t.0 c r
unfolding session_at
session-is t c r e f = rw (e, f)
