-- One instant, from what its steps promise: time on air, the ends, and the one possible start behind them.
-- Rests on ends' laws of work one after another and on rules' laws of lists and sizes.
use mathlib.Core.Path.{◌≡◌, refl, sym, ap, subst, ◌∙◌}
use mathlib.Core.Bool.{Bool, true, false, ◌&&◌}
use mathlib.Core.List.{List, [], ◌∷◌}
use Prim.Native.Nat.{ℕ, suc, ◌+◌, ◌≤◌, ◌<◌}
use native.Mathlib.Omega.{arith}
use lib.Dec.{eqb}
use lib.ListN.{length, get_or}
use borrow.Author.Tests.{eq-eqb, ne_eqb, lt-ltb, le-ltb}
use Rattle.rules.specs.declared.Session.{Session}
use Rattle.rules.specs.Lists.{All, place, remove_at}
use Rattle.rules.specs.State.{empty, starts_at, to_come, with_started}
use Rattle.rules.specs.Follows.Wires.{Sorted}
use Rattle.rules.specs.Ends.{Turn, writes, and_then}
use Rattle.rules.specs.Instants.{outranks, may_start, began, failed, meets_equal, ousted, launched, start_at, end_at, instant}
use Rattle.rules.specs.Instants.{on_air, elapse, silence}
use Rattle.rules.proofs.All.{all-into}
use Rattle.rules.proofs.Every.{all_get_d, fewer-all, fewer-remove_at}
use Rattle.rules.proofs.Leaving.{end_at-fewer}
use Rattle.rules.proofs.Size.{ousted-brief, end_at-brief}
use Rattle.memory.specs.declared.Which.TheVariants.{Waiting, Started}
use Rattle.memory.specs.Memory.{Memory, Form, see, relisted, silenced, places_of, Now}
use Rattle.memory.proofs.Laws.{silenced-none}
use Rattle.ends.specs.Does.{Playable, room_for, Tells, Turns, Does, one_ended, chain_ended, ending_at, Ordered}
use Rattle.ends.proofs.Followers.{ordered-fewer}
use Rattle.ends.proofs.Laws.{turns-quiet, turns_then, turns-over, removed-less}
use Rattle.instants.specs.Runs.{Meets, Placed, Lasts, Lasting, passed}

-- ## Time on air: the two answers of `elapse`

on_none : (d : ℕ) (l : List Session) → 0 ≡ length l → l ≡ on_air d l
unfolding on_air
on_none d [] h = refl
on_none d (s ∷ l) h = absurd (omega (arith, h))

silent-none : (d : ℕ) (l : List Session) → 0 ≡ length l → silence d l ≡ d
silent-none d [] h = refl
silent-none d (s ∷ l) h = absurd (omega (arith, h))

silent-some : (d : ℕ) (l : List Session) → 0 < length l → silence d l ≡ 0
silent-some d [] h = absurd (omega arith)
silent-some d (s ∷ l) h = refl

module _ (d : ℕ) (s : Memory) {m : List ℕ} where
  pub elapsed-none : 0 ≡ length s.queue.started → Now m (silenced d s) → Now m (passed d s)
  unfolding elapse
  elapsed-none z v =
      let e = on_none d s.queue.started z in
      let n = silent-none d s.queue.started z in
      let m = sym n in
      record { form = v.form; is = v.is ∙ (λ i. silenced (m i) (relisted Started (e i) s)) }

  pub elapsed-some : 0 < length s.queue.started → Now m (relisted Started (on_air d s.queue.started) s) → Now m (passed d s)
  unfolding elapse
  elapsed-some h v =
      let u = relisted Started (on_air d s.queue.started) s in
      record { form = v.form; is = v.is ∙ sym (silenced-none u) ∙ ap (λ n. silenced n u) (sym (silent-some d s.queue.started h)) }

module _ (d : ℕ) where
  pub first-lasting : (l : List Session) → 0 < length l → Lasting d l → Lasts d (get_or l 0 empty)
  first-lasting l h a = all_get_d (Lasts d) l 0 empty h a

-- ## Whether one may start

pub may_none : (x : Session) (l : List Session) → 0 ≡ length l → true ≡ may_start x l
unfolding may_start
may_none x [] h = refl
may_none x (s ∷ l) h = absurd (omega (arith, h))

may-first : (x : Session) (l : List Session) → 0 < length l → may_start x l ≡ (eqb x.overrides 1 && outranks x (get_or l 0 empty))
unfolding may_start
may-first x [] h = absurd (omega arith)
may-first x (s ∷ l) h = refl

pub may-over : (x air : Session) (l : List Session) {b c : Bool} → 0 < length l → air ≡ get_or l 0 empty →
    eqb x.overrides 1 ≡ b → outranks x air ≡ c → (b && c) ≡ may_start x l
may-over x air l h e f o = sym (may-first x l h ∙ rw (← e, f, o) refl)

-- ## The end of an equal one: the answers of `oust`

meets-none : (x : Session) (l : List Session) → 0 ≡ length l → meets_equal x l ≡ false
unfolding meets_equal
meets-none x [] h = refl
meets-none x (s ∷ l) h = absurd (omega (arith, h))

meets-first : (x : Session) (l : List Session) → 0 < length l → meets_equal x l ≡ eqb (get_or l 0 empty).access x.access
unfolding meets_equal
meets-first x [] h = absurd (omega arith)
meets-first x (s ∷ l) h = refl

module _ (x : Session) (m : List ℕ) {e : List ℕ} {len : ℕ} where
  ousted-not : Form m → meets_equal x (see m).queue.started ≡ false → Does (ousted x) len m e len m e
  unfolding ousted
  ousted-not g f = rw f (turns-quiet g)

  pub ousted-none : Form m → 0 ≡ length (see m).queue.started → Does (ousted x) len m e len m e
  ousted-none g h = ousted-not g (meets-none x (see m).queue.started h)

  module _ (air : Session) (h : 0 < length (see m).queue.started) (f : air ≡ get_or (see m).queue.started 0 empty) where
    pub ousted-other : Form m → (air.access ≡ x.access → ⊥) → Does (ousted x) len m e len m e
    ousted-other g n =
        let k = (see m).queue.started in
        ousted-not g (meets-first x k h ∙ ne_eqb (get_or k 0 empty).access x.access (λ z. n (ap (λ (s : Session). s.access) f ∙ z)))

    pub ousted-equal : {n o : List ℕ} {to : ℕ} → air.access ≡ x.access →
        Does (chain_ended Started 0 (ending_at 0 125) 125) len m e to n o → Does (ousted x) len m e to n o
    unfolding ousted chain_ended one_ended
    ousted-equal y d =
        let k = (see m).queue.started in
        rw (meets-first x k h ∙ eq-eqb (get_or k 0 empty).access x.access (ap (λ (s : Session). s.access) (sym f) ∙ y)) d

-- ## A start

-- `oust` left m
module _ (x : Session) {e : List ℕ} {len : ℕ} {s : Memory} {m o : List ℕ} {mid : ℕ}
    (d : Turns e len (ousted x s.queue) s m mid o) where
  -- there is room for its record
  pub on_room : len + room_for (2 + to_come s.queue) ≤ length e → mid + room_for 1 ≤ length e
  on_room h = omega (arith, d.tells.count, ousted-brief x s.queue)

  module _ (f : may_start x s.queue.started ≡ true) where
    -- and, with an equal one out, a place
    pub on-placed : Placed (launched x s.queue) → length (see m).queue.started < places_of Started
    unfolding launched and_then
    on-placed h = omega (arith, rw f at h, ap (λ (z : Memory). length z.queue.started) d.shows.is)

    -- it goes on air
    pub launched-on : len + room_for (2 + to_come s.queue) ≤ length e → {m' o' : List ℕ} {to : ℕ} →
        Now m' (relisted Started (x ∷ (see m).queue.started) (see m)) → Tells o mid (began x ∷ []) to o' →
        Turns e len (launched x s.queue) s m' to o'
    unfolding launched
    launched-on h n b =
        rw f
        (turns_then (ousted x s.queue) (λ u. writes (began x ∷ []) (with_started (x ∷ u.started) u))
        (omega (arith, ousted-brief x s.queue)) d (record { shows = n; tells = b }))

module _ (x : Session) {e : List ℕ} {len : ℕ} {s : Memory} {m o : List ℕ} {to : ℕ} where
  -- it fails
  pub launched-off : may_start x s.queue.started ≡ false → Turns e len (failed x s.queue) s m to o →
      Turns e len (launched x s.queue) s m to o
  unfolding launched
  launched-off f v = rw f v

-- ## The one possible start at t

module _ (t : ℕ) where
  none-there : (l : List Session) → 0 ≡ length l → place (starts_at t) l ≡ length l
  unfolding place
  none-there [] h = refl
  none-there (s ∷ l) h = absurd (omega (arith, h))

  none-behind : (l : List Session) → All (λ s. t < s.start.0) l → place (starts_at t) l ≡ length l
  unfolding place
  none-behind [] a = refl
  none-behind (s ∷ l) a = rw (ne_eqb t s.start.0 (λ e. omega (arith, a.0))) (ap suc (none-behind l a.1))

  -- it is the first that waits
  first-now : (l : List Session) → 0 < length l → (get_or l 0 empty).start.0 ≡ t → place (starts_at t) l ≡ 0
  unfolding place
  first-now [] h e = absurd (omega arith)
  first-now (s ∷ l) h e = rw (eq-eqb t s.start.0 (sym e))

  -- or none
  first-later : (l : List Session) → Sorted l → All (λ s. t ≤ s.start.0) l → 0 < length l → ((get_or l 0 empty).start.0 ≡ t → ⊥) →
      place (starts_at t) l ≡ length l
  first-later [] o a h n = absurd (omega arith)
  first-later (s ∷ l) o a h n =
      let i : t < s.start.0 = omega (arith, a.0) in
      none-behind (s ∷ l) (i, all-into (λ u. s.start.0 < u.start.0) (λ u. t < u.start.0) (λ u j. omega arith) l o.0)

module _ (t : ℕ) {e : List ℕ} {len : ℕ} {m : List ℕ} (g : Form m) where
  start-quiet : place (starts_at t) (see m).queue.waiting ≡ length (see m).queue.waiting →
      Turns e len (start_at t (see m).queue) (see m) m len e
  unfolding start_at
  start-quiet p =
      let w = (see m).queue.waiting in
      rw (le-ltb (place (starts_at t) w) (length w) (omega (arith, p))) (turns-quiet g)

  pub start_none : 0 ≡ length (see m).queue.waiting → Turns e len (start_at t (see m).queue) (see m) m len e
  start_none z = start-quiet (none-there t (see m).queue.waiting z)

  pub start-later : (x : Session) → 0 < length (see m).queue.waiting → x ≡ get_or (see m).queue.waiting 0 empty →
      (x.start.0 ≡ t → ⊥) → Meets t (see m).queue → Turns e len (start_at t (see m).queue) (see m) m len e
  start-later x h f y v =
      start-quiet (first-later t (see m).queue.waiting v.ordered.sorted v.starts h (λ z. y (ap (λ u. u.start.0) f ∙ z)))

-- the first starts, and the words m hold the others
module _ {t : ℕ} (s : Memory) (x : Session) (h : 0 < length s.queue.waiting) (f : x ≡ get_or s.queue.waiting 0 empty)
    (y : x.start.0 ≡ t) {m : List ℕ} (u : Now m (relisted Waiting (remove_at 0 s.queue.waiting) s)) where
  start-launched : start_at t s.queue ≡ launched x (see m).queue
  unfolding start_at
  start-launched =
      let w = s.queue.waiting in
      let p : place (starts_at t) w ≡ 0 = first-now t w h (ap (λ s. s.start.0) (sym f) ∙ y) in
      rw (p, lt-ltb 0 (length w) h, ← f) (ap (λ (z : Memory). launched x z.queue) (sym u.is))

  -- its start and its end are no longer to come
  pub start-room : 2 + to_come (see m).queue ≡ to_come s.queue
  start-room = omega (arith, removed-less 0 s h u, ap (λ (z : Memory). length z.queue.started) u.is)

  pub start-playable : All Playable s.queue.started → All Playable (see m).queue.started
  start-playable a = subst (λ (z : Memory). All Playable z.queue.started) (sym u.is) a

  pub start-ordered : Ordered s.queue.waiting → Ordered (see m).queue.waiting
  start-ordered a = subst (λ (z : Memory). Ordered z.queue.waiting) (sym u.is)
      (ordered-fewer (fewer-remove_at 0 s.queue.waiting) a)

  pub start-placed : Placed (start_at t s.queue) → Placed (launched x (see m).queue)
  start-placed p = subst Placed start-launched p

  pub start-turns : {e : List ℕ} {len : ℕ} {m' : List ℕ} {to : ℕ} {o : List ℕ} →
      Turns e len (launched x (see m).queue) (see m) m' to o → Turns e len (start_at t s.queue) s m' to o
  start-turns {e} {len} {m'} {to} {o} v =
      let l = launched x (see m).queue in
      subst (λ (k : Turn). Turns e len k s m' to o) (sym start-launched)
      (turns-over (subst (λ (z : Memory). Turns e len l z m' to o) u.is v))

-- ## An instant: its ends, and then its start

module _ (t : ℕ) {e : List ℕ} {len : ℕ} {s : Memory} {m : List ℕ} {to : ℕ} {o : List ℕ}
    (d : Turns e len (end_at t s.queue) s m to o) (h : len + room_for (to_come s.queue) ≤ length e) where
  -- nothing that waits ends
  waiting : (see m).queue.waiting ≡ s.queue.waiting
  unfolding end_at
  waiting = ap (λ (z : Memory). z.queue.waiting) d.shows.is

  pub instant-room : to + room_for (to_come (see m).queue) ≤ length e
  instant-room = omega (arith, end_at-brief t s.queue, d.tells.count, h, ap (λ (z : Memory). to_come z.queue) d.shows.is)

  pub instant-playable : All Playable s.queue.started → All Playable (see m).queue.started
  instant-playable a =
      subst (λ (z : Memory). All Playable z.queue.started) (sym d.shows.is)
      (fewer-all Playable (end_at-fewer s.queue t).started a)

  pub instant-meets : Meets t s.queue → Meets t (see m).queue
  instant-meets v =
      record { ordered = subst Ordered (sym waiting) v.ordered; starts = subst (All (λ s. t ≤ s.start.0)) (sym waiting) v.starts }

  pub instant-placed : Placed (instant t s.queue) → Placed (start_at t (see m).queue)
  unfolding instant and_then
  instant-placed p = subst (λ (z : Memory). Placed (start_at t z.queue)) (sym d.shows.is) p

  pub instant-turns : {m' : List ℕ} {r : ℕ} {o' : List ℕ} → Turns o to (start_at t (see m).queue) (see m) m' r o' →
      Turns e len (instant t s.queue) s m' r o'
  unfolding instant
  instant-turns v = turns_then (end_at t s.queue) (start_at t) (omega (arith, end_at-brief t s.queue, h)) d v
