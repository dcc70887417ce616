-- Laws behind eviction, acceptance, abort and the two answers: what each piece of work promises, from what its parts promise.
-- Rests on the laws of work of `ends`, on what `checks` tells of places, and on the rules' laws of counts and sizes.
use mathlib.Core.Path.{◌≡◌, refl, sym, ap, ap₂, subst, ◌∙◌}
use mathlib.Core.Bool.{Bool, true, false, cond, not}
use mathlib.Core.List.{List, [], ◌∷◌, ◌++◌, map}
use Prim.Native.Nat.{ℕ, zero, suc, ◌+◌, ◌-◌, ◌*◌, ◌≤◌, ◌<◌}
use native.Mathlib.Omega.{arith}
use lib.Dec.{eqb}
use lib.ListN.{length, get_or}
use borrow.Author.Tests.{eqb-true, lt-ltb, eq-eqb, ne_eqb}
use borrow.Rule.Slice.PartMut.{put_mid, mid_of}
use Rattle.rules.specs.declared.Session.{Session}
use Rattle.rules.specs.declared.Past.{Past}
use Rattle.rules.specs.declared.Start.{Start}
use Rattle.rules.specs.declared.Start.TheVariants.{Timed, Linked}
use Rattle.std.specs.Prelude.{Option, Some, None}
use Rattle.rules.specs.declared.Ninths.{Ninths}
use Rattle.rules.specs.declared.Request.{Request}
use Rattle.rules.specs.declared.Ending.{Ending}
use Rattle.rules.specs.declared.Ending.TheVariants.{Complete, Response}
use Rattle.rules.specs.Lists.{All, bit, put, keep, omit, some, count, place, insert_at, remove_at}
use Rattle.rules.specs.State.{Queue, empty, is, starts_at, starts_after, holds}
use Rattle.rules.specs.Follows.Wires.{Sorted}
use Rattle.rules.specs.Recent.{remembered_all}
use Rattle.rules.specs.Records.{Record, SpliceResponse, AbortResponse}
use Rattle.rules.specs.Ends.{Turn, writes, and_then, ended, past, endings, dismissed, evicted_at, evicted, cancelled, aborted}
use Rattle.rules.specs.Splicing.{start_of, session_at, requested, full}
use Rattle.rules.specs.Splicing.{splice_result, inserted, accepts, accepted, later, Spliced, grants, declines, answer_splice}
use Rattle.rules.specs.Answers.{answer_abort}
use Rattle.rules.specs.Follows.Asked.{Within, Asked}
use Rattle.rules.specs.Follows.Sound.{Room, Once, Holding}
use Rattle.rules.specs.Units.{horizon}
use Rattle.rules.proofs.Tests.{and_both}
use Rattle.rules.proofs.Count.{place≤}
use Rattle.rules.proofs.Every.{all_none, none-some, fewer-sorted}
use Rattle.rules.proofs.Leaving.{evicted-fewer, evicted-started}
use Rattle.rules.proofs.Timed.{evicted-free}
use Rattle.rules.proofs.Moves.{evicted-none, later-behind}
use Rattle.rules.proofs.Checks.{passed-all}
use Rattle.rules.proofs.Room.{room-more, sixty-four}
use Rattle.rules.proofs.Size.{evicted-lean}
use Rattle.rules.proofs.Bounds.{never, start-early}
use Rattle.rules.proofs.Sound.{early}
use Rattle.places.specs.Places.{starts_from}
use Rattle.memory.specs.declared.Which.{Which}
use Rattle.memory.specs.declared.Which.TheVariants.{Waiting, Started}
use Rattle.memory.specs.Memory.{Memory, Form, see, sessions, list_of, relisted, onward, Now, places_of, OfFour, Storable}
use Rattle.ends.specs.Does.{Turns, Does, one_ended, chain_ended, ending_at}
use Rattle.ends.proofs.Laws.{tells-part, tells-then, turns-quiet, turns-first, turns_then}
use Rattle.checks.specs.declared.Place.{Place}
use Rattle.checks.specs.Found.{start_in, where_in}
use Rattle.checks.proofs.Laws.{HeldAt, held_at, held-alone, start-known, taken_at, free-at, taken-within, result-none}
use Rattle.reply.specs.declared.Did.{Did}
use Rattle.reply.specs.Unmoved.{unmoved}
use Rattle.writing.specs.Puts.{Puts}
use Rattle.requests.specs.declared.Way.{Way}
use Rattle.requests.specs.Made.{MadeWay, Splices}

-- ## Way for a new session

evicted-chain : (t i : ℕ) (q : Queue) → i ≡ place (starts_at t) q.waiting → i < length q.waiting →
    chain_ended Waiting i (Response 109) 109 q ≡ evicted t q
unfolding evicted evicted_at chain_ended one_ended
evicted-chain t i q e h = rw e (rw (lt-ltb (place (starts_at t) q.waiting) (length q.waiting) (omega arith)))

-- what is left of those that wait: in order still, and none starts at t
module _ (t : ℕ) (m n : List ℕ) {e o : List ℕ} {to : ℕ} (d : Does (evicted t) 0 m e to n o) (k : Sorted (see m).queue.waiting) where
  left : (see n).queue.waiting ≡ (evicted t (see m).queue).queue.waiting
  left = ap (λ (s : Memory). s.queue.waiting) d.shows.is

  still : Sorted (see n).queue.waiting
  still = rw left (fewer-sorted (evicted-fewer t (see m).queue).waiting k)

  gone : some (starts_at t) (see n).queue.waiting ≡ false
  gone =
      let w = (evicted t (see m).queue).queue.waiting in
      rw left (none-some (starts_at t) w (all_none (starts_at t) w (evicted-free t (see m).queue k)))

-- i: the place of the first from t on; b: whether one that waits starts at t
module _ (t : ℕ) (m : List ℕ) {i : ℕ} {b : Bool} (f : i ≡ place (starts_from t) (see m).queue.waiting)
    (g : b ≡ some (starts_at t) (see m).queue.waiting) where
  abbrev w : List Session
  w = (see m).queue.waiting

  pub way-free : {e : List ℕ} → b ≡ false → Form m → MadeWay t m e (record { at = i; len = 0 }) m e
  way-free {e} h k =
      record {
        does = subst (λ (u : Turn). Turns e 0 u (see m) m 0 e) (evicted-none t (see m).queue (sym g ∙ h)) (turns-quiet k);
        goes = f ∙ sym (free-at t w (sym g ∙ h));
      }

  module _ (h : b ≡ true) (k : Holding (see m).clock (see m).queue) where
    abbrev sorted : Sorted w
    sorted = k.timed.sorted

    pub way-taken : i < length w
    way-taken = taken-within t w sorted f g h

    pub way-over : {e n o : List ℕ} {r : Way} → Does (chain_ended Waiting i (Response 109) 109) 0 m e r.len n o →
        r.at ≡ place (starts_from t) (see n).queue.waiting → MadeWay t m e r n o
    way-over {e} {n} {o} {r} d p =
        let same = evicted-chain t i (see m).queue (f ∙ sym (taken_at t w sorted (sym g ∙ h))) way-taken in
        let u : Does (evicted t) 0 m e r.len n o = subst (λ (u : Turn). Turns e 0 u (see m) n r.len o) same d in
        record { does = u; goes = p ∙ sym (free-at t (see n).queue.waiting (gone t m n u sorted)) }

    -- those that wait are in order still: one more search may halve them
    pub way-sorted : {e n o : List ℕ} {to : ℕ} → Does (chain_ended Waiting i (Response 109) 109) 0 m e to n o
        → Sorted (see n).queue.waiting
    way-sorted {e} {n} {o} {to} d =
        let same = evicted-chain t i (see m).queue (f ∙ sym (taken_at t w sorted (sym g ∙ h))) way-taken in
        still t m n (subst (λ (u : Turn). Turns e 0 u (see m) n to o) same d) sorted

-- ## Acceptance

module _ {t : ℕ} {m e n o : List ℕ} {r : Way} (a : MadeWay t m e r n o) where
  -- 14 bytes for each that goes
  pub way-lean : r.len + 14 * length (see n).queue.waiting ≤ 14 * length (see m).queue.waiting
  way-lean =
      omega (
        arith,
        a.does.tells.count,
        ap (λ (s : Memory). length s.queue.waiting) a.does.shows.is,
        evicted-lean t (see m).queue,
        ap length (evicted-started t (see m).queue),
      )

  pub way-within : r.at ≤ length (see n).queue.waiting
  way-within = omega (arith, a.goes, place≤ (starts_after t) (see n).queue.waiting)

  -- "the waiting sessions, after any eviction, whose start is later": those from the place on
  way_later : Sorted (see m).queue.waiting → length (see n).queue.waiting - r.at ≡ count (starts_after t) (see n).queue.waiting
  way_later k =
      let w = (see n).queue.waiting in
      ap (λ (i : ℕ). length w - i) a.goes ∙ later-behind t w (still t m n a.does k)

-- the new one waits before the first that starts later, its 100 stands behind the ends, and those that start later have moved
pub accept-turns : (new : Session) {m e n o n' ys : List ℕ} {r : Way} {moves k : ℕ} → MadeWay new.start.0 m e r n o
    → Sorted (see m).queue.waiting →
    Now n' (onward true (relisted Waiting (insert_at r.at new (sessions Waiting n)) (see n))) →
    moves ≡ length (sessions Waiting n) - r.at → length o ≡ length e → r.len ≤ length e →
    Puts (accepts new) (mid_of r.len (length o - r.len) o) k ys →
    Splices (grants new (see m).queue) m e (record { consumed = 0; written = r.len + k; moved = moves }) n'
    (put_mid r.len (length o - r.len) o ys)
unfolding accepted and_then inserted later
accept-turns new {m} {e} {n} {o} {n'} {ys} {r} a j v c l h b =
    let t = new.start.0 in
    let put : (i : ℕ) → Memory → Memory = λ i s. onward true (relisted Waiting (insert_at i new s.queue.waiting) s) in
    let after : Memory → Memory = λ s. put (place (starts_after t) s.queue.waiting) s in
    record {
      consumed = refl;
      does =
          record {
            shows = record { form = v.form; is = v.is ∙ ap (λ (i : ℕ). put i (see n)) a.goes ∙ ap after a.does.shows.is };
            tells =
                tells-then (omega (arith, a.does.tells.count)) a.does.tells (tells-part (omega arith) b);
          };
      moved = c ∙ way_later a j ∙ ap (λ (s : Memory). count (starts_after t) s.queue.waiting) a.does.shows.is;
    }

-- ## The answer to a Splice_Request

-- no start is so late that an end wraps
pub start_fits : (c clock : ℕ) (f : Start) (q : Queue) {t : Ninths} → Within f → Holding clock q → clock < horizon →
    start_in c f q ≡ Some t → t.0 < never
unfolding start_of
start_fits c clock (Timed m) q h k l e = omega (arith, (start-known c (Timed m) q e).1)
start_fits c clock (Linked p) q h k l e =
    omega (arith, (start-known c (Linked p) q e).1, start-early c (Linked p) q (omega arith) (early k l))

-- of the session that r asks for: its start is known, and i is the place of the first from then on
pub record Asks (c : ℕ) (r : Request) (q : Queue) (new : Session) (i : ℕ) : Type 0 where
  pub known : start_in c r.start q ≡ Some new.start
  pub is : new ≡ requested c r q
  pub at : i ≡ place (starts_from new.start.0) q.waiting

pub asks : (c : ℕ) (r : Request) (q : Queue) {t : Ninths} {new : Session} {i : ℕ} → start_in c r.start q ≡ Some t →
    new ≡ session_at t.0 c r → i ≡ place (starts_from t.0) q.waiting → Asks c r q new i
unfolding requested session_at
asks c r q {t} f e k =
    let z = sym (ap (λ (s : Session). s.start) e) in
    record {
      known = f ∙ ap Some z;
      is = e ∙ ap (λ (n : ℕ). session_at n c r) (sym (start-known c r.start q f).1);
      at = k ∙ ap (λ (u : Ninths). place (starts_from u.0) q.waiting) z;
    }

-- whether its start is taken
pub asks-taken : (c : ℕ) (r : Request) (w : List Session) (t : Ninths) {new : Session} {b : Bool} → new ≡ session_at t.0 c r →
    b ≡ some (starts_at t.0) w → b ≡ some (starts_at new.start.0) w
unfolding session_at
asks-taken c r w t e k = k ∙ ap (λ (u : Ninths). some (starts_at u.0) w) (sym (ap (λ (s : Session). s.start) e))

-- a connection that is not full leaves room for one more
room-left : (s : Session) (w : List Session) → OfFour s → All OfFour w → Room w → full s.conn w ≡ false → length w < places_of Waiting
room-left s w low a r f = omega (arith, sixty-four (s ∷ w) (low, a) (room-more w (s ∷ w) s.conn low f (λ c. omega arith) r))

-- new: the session that r asks for; n: its result
module _ (c : ℕ) (r : Request) (m : List ℕ) {new : Session} {n : ℕ} (a : new ≡ requested c r (see m).queue)
    (f : n ≡ splice_result (see m).clock c r new (see m).queue) where
  abbrev q : Queue
  q = (see m).queue

  result-is : n ≡ splice_result (see m).clock c r (requested c r q) q
  result-is = f ∙ ap (λ (s : Session). splice_result (see m).clock c r s q) a

  pub storable : c ≤ 3 → Asked r → Storable new
  unfolding requested session_at
  storable low h = rw a (record {
    of_four = low;
    narrow = record {
      overrides = h.overrides;
      mux = omega (arith, h.mux.1);
      asked =
          omega (arith, h.overrides, h.mux, h.event);
    };
  })

  pub room-waiting : n ≡ 100 → c ≤ 3 → Form m → Holding (see m).clock q → length q.waiting < places_of Waiting
  unfolding requested session_at
  room-waiting h low k j =
      room-left (requested c r q) q.waiting low k.of_four j.room
      (passed-all (see m).clock c r q (sym result-is ∙ h)).room

  answer-is : cond (eqb n 100) (grants new q) (declines c n r q) ≡ answer_splice (see m).clock c r q
  unfolding answer_splice
  answer-is = ap₂ (λ (k : ℕ) (s : Session). cond (eqb k 100) (grants s q) (declines c k r q)) result-is a

  module _ {e o : List ℕ} where
    pub splice-accepted : {m' : List ℕ} {g : Did} → n ≡ 100 → Splices (grants new q) m e g m' o →
        Splices (answer_splice (see m).clock c r q) m e g m' o
    splice-accepted {m'} {g} h d = subst (λ (t : Spliced). Splices t m e g m' o) answer-is (rw (eq-eqb n 100 h) d)

    pub splice-refused : {len : ℕ} → (n ≡ 100 → ⊥) → Form m → Puts (SpliceResponse c n r.id) e len o →
        Splices (answer_splice (see m).clock c r q) m e (unmoved len) m o
    splice-refused {len} h k b =
        subst (λ (t : Spliced). Splices t m e (unmoved len) m o) answer-is
        (rw (ne_eqb n 100 h) (record { consumed = refl; does = turns-first k b; moved = refl }))

-- b: its start is not known
pub splice-unknown : (c : ℕ) (r : Request) (m : List ℕ) {e o : List ℕ} {len : ℕ} → start_in c r.start (see m).queue ≡ None →
    Form m → Puts (SpliceResponse c 121 r.id) e len o → Splices (answer_splice (see m).clock c r (see m).queue) m e (unmoved len) m o
splice-unknown c r m h f b =
    let new = requested c r (see m).queue in
    splice-refused c r m refl (result-none (see m).clock c r new (see m).queue h) (λ i. omega (arith, i)) f b

-- ## Abort

module _ {A : Type 0} (p : A → Bool) where
  -- none passes
  parted-none : (l : List A) → count p l ≡ 0 → (keep p l ≡ []) × (omit p l ≡ l)
  parted-none [] h = (refl, refl)
  parted-none (x ∷ l) h = go (p x) (parted-none l) h
    where
      go : (b : Bool) → (count p l ≡ 0 → (keep p l ≡ []) × (omit p l ≡ l)) → bit b + count p l ≡ 0
          → (put b x (keep p l) ≡ []) × (put (not b) x (omit p l) ≡ x ∷ l)
      go true ih k = absurd (omega arith)
      go false ih k = let z = ih (omega arith) in (z.0, ap (λ (m : List A). x ∷ m) z.1)

  -- one alone passes: that at the place i
  parted-one : (i : ℕ) (l : List A) (d : A) → i < length l → p (get_or l i d) ≡ true → count p (remove_at i l) ≡ 0
      → (keep p l ≡ get_or l i d ∷ []) × (omit p l ≡ remove_at i l)
  unfolding remove_at
  parted-one i [] d h e z = absurd (omega arith)
  parted-one zero (x ∷ l) d h e z =
      let k = parted-none l z in
      rw e (ap (λ (m : List A). x ∷ m) k.0, k.1)
  parted-one (suc i) (x ∷ l) d h e z = go (p x) (parted-one i l d (omega arith) e) z
    where
      go : (b : Bool) → (count p (remove_at i l) ≡ 0 → (keep p l ≡ get_or l i d ∷ []) × (omit p l ≡ remove_at i l))
          → bit b + count p (remove_at i l) ≡ 0
          → (put b x (keep p l) ≡ get_or l i d ∷ []) × (put (not b) x (omit p l) ≡ x ∷ remove_at i l)
      go true ih k = absurd (omega arith)
      go false ih k = let y = ih (omega arith) in (y.0, ap (λ (m : List A). x ∷ m) y.1)

module _ (p : Session → Bool) where
  -- what f makes of the ends of the started
  module _ {A : Type 0} (f : Ending → Session → A) where
    abbrev cancels : List Session → List A
    cancels k = endings (Complete 116) (Response 116) p k A f

    cancels-none : (k : List Session) → count p k ≡ 0 → cancels k ≡ []
    unfolding endings
    cancels-none [] h = refl
    cancels-none (s ∷ k) h = go (p s) h
      where
        go : (b : Bool) → bit b + count p k ≡ 0 → put b (f (Complete 116) s) (map (f (Response 116)) (keep p k)) ≡ []
        go true l = absurd (omega arith)
        go false l = ap (map (f (Response 116))) (parted-none p k (omega arith)).0

    -- by what it was: the first is on air
    cancels-one : (i : ℕ) (k : List Session) → i < length k → p (get_or k i empty) ≡ true → count p (remove_at i k) ≡ 0
        → cancels k ≡ f (ending_at i 116) (get_or k i empty) ∷ []
    unfolding endings remove_at
    cancels-one i [] h e z = absurd (omega arith)
    cancels-one zero (s ∷ k) h e z =
        rw e (ap (λ (l : List Session). f (Complete 116) s ∷ map (f (Response 116)) l) (parted-none p k z).0)
    cancels-one (suc i) (s ∷ k) h e z = go (p s) z
      where
        go : (b : Bool) → bit b + count p (remove_at i k) ≡ 0
            → put b (f (Complete 116) s) (map (f (Response 116)) (keep p k)) ≡ f (Response 116) (get_or k i empty) ∷ []
        go true l = absurd (omega arith)
        go false l = ap (map (f (Response 116))) (parted-one p i k empty (omega arith) e (omega arith)).0

  -- what is left of both lists, and who ends
  cancelled-parts : (q : Queue) {w k v : List Session} {r : List Record} {g : List Past} → omit p q.waiting ≡ w → omit p q.started ≡ k
      → cancels ended q.started ≡ r → cancels past q.started ≡ g → keep p q.waiting ≡ v
      → ◌≡◌ {A = Turn} (record {
        queue = record { waiting = w; started = k; lately = remembered_all (g ++ map (past (Response 116)) v) q.lately };
        written = r ++ map (ended (Response 116)) v;
      }) (cancelled p q)
  unfolding cancelled
  cancelled-parts q a b d g e =
      sym (λ i. record {
        queue = record { waiting = a i; started = b i; lately = remembered_all (g i ++ map (past (Response 116)) (e i)) q.lately };
        written = d i ++ map (ended (Response 116)) (e i);
      })

-- a number is held once: what ends is the session where it is held
module _ (c x : ℕ) (q : Queue) (i : ℕ) (once : Once q) where
  waiting-cancelled : HeldAt c x q Waiting i → one_ended Waiting i (Response 116) q ≡ cancelled (is c x) q
  unfolding one_ended
  waiting-cancelled h =
      let z = held-alone c x q Waiting i once h in
      let w = parted-one (is c x) i q.waiting empty h.within h.passes (omega (arith, z)) in
      let k : count (is c x) q.started ≡ 0 = omega (arith, z) in
      cancelled-parts (is c x) q w.1 (parted-none (is c x) q.started k).1 (cancels-none (is c x) ended q.started k)
      (cancels-none (is c x) past q.started k) w.0

  started-cancelled : HeldAt c x q Started i → one_ended Started i (ending_at i 116) q ≡ cancelled (is c x) q
  unfolding one_ended
  started-cancelled h =
      let z = held-alone c x q Started i once h in
      let k : count (is c x) (remove_at i q.started) ≡ 0 = omega (arith, z) in
      let w = parted-none (is c x) q.waiting (omega (arith, z)) in
      cancelled-parts (is c x) q w.1 (parted-one (is c x) i q.started empty h.within h.passes k).1
      (cancels-one (is c x) ended i q.started h.within h.passes k)
      (cancels-one (is c x) past i q.started h.within h.passes k) w.0

-- w: where the number is held; u: that list
pub found_in : (c x : ℕ) (q : Queue) {w : Option Place} {p : Place} {u : Which} → w ≡ where_in c x q → w ≡ Some p → p.which ≡ u
    → HeldAt c x q u p.at
found_in c x q {p = p} f g h = subst (λ (z : Which). HeldAt c x q z p.at) h (held_at c x q (sym f ∙ g))

module _ (c x : ℕ) {m e : List ℕ} (f : Form m) where
  pub abort-unknown : {len : ℕ} {o : List ℕ} → holds c x (see m).queue ≡ false → Puts (AbortResponse c 121 x) e len o →
      Does (answer_abort c x) 0 m e len m o
  unfolding answer_abort
  abort-unknown h b = rw h (turns-first f b)

  -- 100, the end of the session where the number is held, and its followers' ends
  module _ {i len to : ℕ} {n o o' : List ℕ} (k : Holding (see m).clock (see m).queue) (b : Puts (AbortResponse c 100 x) e len o) where
    abort-turns : (v : Which) (how : Ending) → HeldAt c x (see m).queue v i →
        one_ended v i how (see m).queue ≡ cancelled (is c x) (see m).queue → Does (chain_ended v i how 116) len m o to n o' →
        Does (answer_abort c x) 0 m e to n o'
    unfolding answer_abort aborted chain_ended
    abort-turns v how h g d =
        let q = (see m).queue in
        let t = turns-first f b in
        let s = get_or (list_of v q) i empty in
        let z = and_both (eqb c s.conn) (eqb x s.id) h.passes in
        let conn = eqb-true c s.conn z.0 in
        let id = eqb-true x s.id z.1 in
        rw h.known
        (turns_then (writes (AbortResponse c 100 x ∷ []) q) (aborted c x) (omega (arith, t.tells.count, b.fits)) t
        (subst (λ (u : Turn). Turns o len u (see m) n to o') (λ j. and_then (g j) (dismissed 116 (sym conn j) (sym id j))) d))

    pub abort-waiting : HeldAt c x (see m).queue Waiting i → Does (chain_ended Waiting i (Response 116) 116) len m o to n o' →
        Does (answer_abort c x) 0 m e to n o'
    abort-waiting h = abort-turns Waiting (Response 116) h (waiting-cancelled c x (see m).queue i k.once h)

    pub abort-started : HeldAt c x (see m).queue Started i → Does (chain_ended Started i (ending_at i 116) 116) len m o to n o' →
        Does (answer_abort c x) 0 m e to n o'
    abort-started h = abort-turns Started (ending_at i 116) h (started-cancelled c x (see m).queue i k.once h)
