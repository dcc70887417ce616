-- Followers in one pass: in order of start each stands behind the one that it follows, so a walk that looks on from where the last link
-- stood finds them all. Rests on rules' laws of a walk.
use mathlib.Core.Path.{◌≡◌, refl, sym, ap, subst, ◌∙◌}
use mathlib.Core.Bool.{Bool, true, false, cond}
use mathlib.Core.List.{List, [], ◌∷◌, ◌++◌}
use Prim.Native.Nat.{ℕ, zero, suc, ◌+◌, ◌-◌, ◌≤◌, ◌<◌}
use native.Mathlib.Omega.{arith}
use native.Mathlib.Numerals.{add-one}
use lib.Dec.{eqb, ltb}
use lib.ListN.{length, take, drop, get_or, set, replicate, take-append-drop, drop_of_length-le}
use lib.Seq.{drop-cons, take-suc, take-suc-set, drop-set-lt, append_snoc}
use borrow.Author.Tests.{eqb-true, ltb-true, ltb-false}
use Rattle.rules.specs.declared.Session.{Session}
use Rattle.rules.specs.Lists.{All, keep, omit, place, remove_at}
use Rattle.rules.specs.State.{Queue, empty, of, follows}
use Rattle.rules.specs.Follows.Wires.{Sorted}
use Rattle.rules.specs.Follows.Sound.{Holding}
use Rattle.rules.specs.Ends.{Walk, followers, walk, dismissed}
use Rattle.rules.proofs.Tests.{and_both, failed}
use Rattle.rules.proofs.All.{all-into}
use Rattle.rules.proofs.Count.{length-remove_at, place-holds}
use Rattle.rules.proofs.Every.{all_both, all_get_d, Fewer, less, fewer-same, fewer-remove_at, fewer-all, fewer-sorted}
use Rattle.rules.proofs.Walk.{walk_none, walk_more, followed}
use Rattle.rules.proofs.Priors.{Chained, orderly}
use Rattle.places.specs.Places.{flagged, Unflagged}
use Rattle.places.proofs.Laws.{flag_at, used-fits}
use Rattle.memory.proofs.Laws.{counted, room_at}
use Rattle.memory.specs.declared.Which.TheVariants.{Waiting, Started}
use Rattle.memory.specs.Memory.{Memory, Form, see, sessions, places_of, OfFour, ring_of, slot_of, from_of, to_of}
use Rattle.rules.specs.Bytes.{part}
use Rattle.ends.specs.Does.{Does, one_ended, those_ended, Ordered, flagging, behind_last}
use Rattle.rules.specs.declared.Ending.{Ending}

-- ## In order

abbrev Follows : Session → Session → Type 0
Follows g s = follows g.conn g.id s ≡ true → g.start.0 < s.start.0

pub ordered-fewer : {w v : List Session} → Fewer w v → Ordered w → Ordered v
ordered-fewer {w} {v} f o =
    record {
      sorted = fewer-sorted f o.sorted;
      behind = all-into (λ g. All (Follows g) w) (λ g. All (Follows g) v) (λ g a. fewer-all (Follows g) f a) v
          (fewer-all (λ g. All (Follows g) w) f o.behind);
    }

-- of what holds of every splicer
pub ordered-now : (now : ℕ) (q : Queue) → Holding now q → Ordered q.waiting
ordered-now now q h =
    let c : Chained now q = record { timed = h.timed; proper = h.proper; once = h.once; tied = h.tied } in
    let o = orderly now q c in
    let w = q.waiting in
    record {
      sorted = h.timed.sorted;
      behind =
          all-into (λ g. (g.start.0 < g.end.0) × All (λ s. follows g.conn g.id s ≡ true → g.end.0 ≡ s.start.0) w)
          (λ g. All (Follows g) w)
          (λ g a. all-into (λ s. follows g.conn g.id s ≡ true → g.end.0 ≡ s.start.0) (Follows g)
          (λ s e t. omega (arith, a.0, e t)) w a.1) w
          (all_both (λ g. g.start.0 < g.end.0) (λ g. All (λ s. follows g.conn g.id s ≡ true → g.end.0 ≡ s.start.0) w) w
          (all-into (λ g. (now < g.start.0) × (g.start.0 < g.end.0)) (λ g. g.start.0 < g.end.0) (λ g l. l.1) w h.timed.later)
          o.behind);
    }

-- ## One pass

-- a session that follows none of them is passed over
untouched : (k c x : ℕ) (s : Session) (w : List Session) → length w ≤ k → follows c x s ≡ false
    → All (λ g. follows g.conn g.id s ≡ false) w →
    followers c x (s ∷ w) ≡ record { gone = (followers c x w).gone; left = s ∷ (followers c x w).left }
unfolding place remove_at
untouched zero c x s [] h d a = walk_none c x (s ∷ []) 1 (rw d refl) (omega arith)
    ∙ sym (ap (λ (r : Walk). record { gone = r.gone; left = s ∷ r.left }) (walk_none c x [] 0 refl (omega arith)))
untouched zero c x s (y ∷ w) h d a = absurd (omega arith)
untouched (suc k) c x s w h d a = go (ltb i (length w)) refl (untouched k c g.id s (remove_at i w))
  where
    i : ℕ
    i = place (follows c x) w

    g : Session
    g = get_or w i empty

    shift : suc i ≡ place (follows c x) (s ∷ w)
    shift = rw d refl

    go : (b : Bool) → ltb i (length w) ≡ b →
        (length (remove_at i w) ≤ k → follows c g.id s ≡ false → All (λ y. follows y.conn y.id s ≡ false) (remove_at i w) →
        followers c g.id (s ∷ remove_at i w) ≡ record {
          gone = (followers c g.id (remove_at i w)).gone;
          left =
              s ∷ (followers c g.id (remove_at i w)).left;
        }) →
        followers c x (s ∷ w) ≡ record { gone = (followers c x w).gone; left = s ∷ (followers c x w).left }
    go false e more =
        let l = ltb-false i (length w) e in
        walk_none c x (s ∷ w) (suc i) shift (omega arith)
        ∙ sym (ap (λ (r : Walk). record { gone = r.gone; left = s ∷ r.left }) (walk_none c x w i refl l))
    go true e more =
        let l = ltb-true i (length w) e in
        let f = and_both (eqb c g.conn) (eqb x g.prior) (place-holds (follows c x) w empty l) in
        let own : follows c g.id s ≡ false =
        subst (λ (y : ℕ). follows y g.id s ≡ false) (sym (eqb-true c g.conn f.0))
        (all_get_d (λ y. follows y.conn y.id s ≡ false) w i empty l a) in
        walk_more c x (s ∷ w) (suc i) shift (omega arith)
        ∙ ap (λ (r : Walk). record { gone = g ∷ r.gone; left = r.left })
        (more (omega (arith, length-remove_at i w l)) own (fewer-all (λ y. follows y.conn y.id s ≡ false) (fewer-remove_at i w) a))
        ∙ sym (ap (λ (r : Walk). record { gone = r.gone; left = s ∷ r.left }) (walk_more c x w i refl l))

abbrev pass : ℕ → ℕ → List Session → Walk
pass c x [] = record { gone = []; left = [] }
pass c x (s ∷ w) =
    cond (follows c x s) (record { gone = s ∷ (pass c s.id w).gone; left = (pass c s.id w).left })
    (record { gone = (pass c x w).gone; left = s ∷ (pass c x w).left })

pass_all : (c x : ℕ) (w : List Session) → Ordered w → followers c x w ≡ pass c x w
unfolding followers walk place remove_at
pass_all c x [] o = refl
pass_all c x (s ∷ w) o = go (follows c x s) refl (pass_all c s.id w rest) (pass_all c x w rest)
  where
    rest : Ordered w
    rest = ordered-fewer (less (fewer-same w)) o

    go : (b : Bool) → follows c x s ≡ b → followers c s.id w ≡ pass c s.id w → followers c x w ≡ pass c x w →
        followers c x (s ∷ w)
        ≡ cond b (record { gone = s ∷ (pass c s.id w).gone; left = (pass c s.id w).left })
        (record { gone = (pass c x w).gone; left = s ∷ (pass c x w).left })
    go true e f g =
        walk_more c x (s ∷ w) 0 (rw e refl) (omega arith) ∙ ap (λ (r : Walk). record { gone = s ∷ r.gone; left = r.left }) f
    go false e f g =
        untouched (length w) c x s w (omega arith) e
        (all-into (λ y. (s.start.0 < y.start.0) × All (Follows y) (s ∷ w)) (λ y. follows y.conn y.id s ≡ false)
        (λ y h. failed (follows y.conn y.id s) (λ t. omega (arith, h.0, h.1.0 t))) w
        (all_both (λ y. s.start.0 < y.start.0) (λ y. All (Follows y) (s ∷ w)) w o.sorted.0 o.behind.1))
        ∙ ap (λ (r : Walk). record { gone = r.gone; left = s ∷ r.left }) g

-- the flags say who goes
pass-flags : (c x : ℕ) (w : List Session) (z : ℕ) (p : Session → Bool) → length w ≤ z →
    ((i : ℕ) → i < length w → p (get_or w i empty) ≡ eqb 1 (get_or (flagging c x w (replicate z 0)) i 0))
    → (keep p w ≡ (pass c x w).gone) × (omit p w ≡ (pass c x w).left)
pass-flags c x [] z p h f = (refl, refl)
pass-flags c x (s ∷ w) zero p h f = absurd (omega arith)
pass-flags c x (s ∷ w) (suc z) p h f = go (follows c x s) f (pass-flags c s.id w z p (omega arith)) (pass-flags c x w z p (omega arith))
  where
    Says : ℕ → Type 0
    Says y = ((i : ℕ) → i < length w → p (get_or w i empty) ≡ eqb 1 (get_or (flagging c y w (replicate z 0)) i 0))
        → (keep p w ≡ (pass c y w).gone) × (omit p w ≡ (pass c y w).left)

    go : (b : Bool) →
        ((i : ℕ) → i < suc (length w) → p (get_or (s ∷ w) i empty)
        ≡ eqb 1 (get_or (cond b (1 ∷ flagging c s.id w (replicate z 0)) (0 ∷ flagging c x w (replicate z 0))) i 0)) →
        Says s.id → Says x →
        (keep p (s ∷ w) ≡ (cond {A = Walk} b (record { gone = s ∷ (pass c s.id w).gone; left = (pass c s.id w).left })
        (record { gone = (pass c x w).gone; left = s ∷ (pass c x w).left })).gone)
        × (omit p (s ∷ w) ≡ (cond {A = Walk} b (record { gone = s ∷ (pass c s.id w).gone; left = (pass c s.id w).left })
        (record { gone = (pass c x w).gone; left = s ∷ (pass c x w).left })).left)
    go true g m n =
        let t : p s ≡ true = g 0 (omega arith) in
        let r = m (λ i l. g (suc i) (omega arith)) in
        (rw t (ap (λ (u : List Session). s ∷ u) r.0), rw t r.1)
    go false g m n =
        let t : p s ≡ false = g 0 (omega arith) in
        let r = n (λ i l. g (suc i) (omega arith)) in
        (rw t r.0, rw t (ap (λ (u : List Session). s ∷ u) r.1))

module _ (c x : ℕ) (w : List Session) (o : Ordered w) (h : length w ≤ 64) where
  abbrev flags : List ℕ
  flags = flagging c x w (replicate 64 0)

  pub flags-gone : keep (flagged flags w) w ≡ (followers c x w).gone
  flags-gone =
      (pass-flags c x w 64 (flagged flags w) h (λ i l. flag_at flags w i o.sorted l)).0
      ∙ sym (ap (λ (r : Walk). r.gone) (pass_all c x w o))

  pub flags-left : omit (flagged flags w) w ≡ (followers c x w).left
  flags-left =
      (pass-flags c x w 64 (flagged flags w) h (λ i l. flag_at flags w i o.sorted l)).1
      ∙ sym (ap (λ (r : Walk). r.left) (pass_all c x w o))

  pub flags-own : All (λ s. of c s ≡ true) (keep (flagged flags w) w)
  flags-own = rw flags-gone (followed c x w).own

-- ## The turns of `walk`

module _ (c x : ℕ) (w : List Session) (f : List ℕ) (i : ℕ) (h : i < length w) (k : i < length f) where
  pub walk-on : (y : ℕ) → y ≡ (get_or w i empty).id → follows c x (get_or w i empty) ≡ true →
      take (i + 1) (set f i 1) ++ flagging c y (drop (i + 1) w) (drop (i + 1) (set f i 1)) ≡ take i f ++ flagging c x (drop i w) (drop i f)
  walk-on y q e =
      rw (q, add-one i, take-suc-set f i 1 k, drop-set-lt (suc i) f i 1 (omega arith), drop-cons w i empty h, drop-cons f i 0 k, e)
      (append_snoc (take i f) 1 (flagging c (get_or w i empty).id (drop (suc i) w) (drop (suc i) f)))

  pub last_on : (y e : ℕ) → y ≡ (get_or w i empty).id → follows c x (get_or w i empty) ≡ true →
      behind_last c y (i + 1) (drop (i + 1) w) (i + 1) ≡ behind_last c x i (drop i w) e
  last_on y e q t = rw (q, add-one i, drop-cons w i empty h, t) refl

  pub last-by : (e : ℕ) → follows c x (get_or w i empty) ≡ false →
      behind_last c x (i + 1) (drop (i + 1) w) e ≡ behind_last c x i (drop i w) e
  last-by e t = rw (add-one i, drop-cons w i empty h, t) refl

  pub walk-by : follows c x (get_or w i empty) ≡ false →
      take (i + 1) f ++ flagging c x (drop (i + 1) w) (drop (i + 1) f) ≡ take i f ++ flagging c x (drop i w) (drop i f)
  walk-by e =
      rw (add-one i, take-suc f i 0 k, drop-cons w i empty h, drop-cons f i 0 k, e)
      (append_snoc (take i f) (get_or f i 0) (flagging c x (drop (suc i) w) (drop (suc i) f)))

pub walk-out : (c x : ℕ) (w : List Session) (f : List ℕ) (i : ℕ) → length w ≤ i → f ≡ take i f ++ flagging c x (drop i w) (drop i f)
walk-out c x w f i h = rw (drop_of_length-le w {i = i} h) (sym (take-append-drop i f))

pub last_out : (c x : ℕ) (w : List Session) (i e : ℕ) → length w ≤ i → e ≡ behind_last c x i (drop i w) e
last_out c x w i e h = rw (drop_of_length-le w {i = i} h) refl

-- no flag stands behind the last
record Behind (f : List ℕ) (r i n e : ℕ) : Type 0 where
  from : e ≤ r
  within : r ≤ i + n
  none : (j : ℕ) → r ≤ i + j → j < n → get_or f j 0 ≡ 0

behind-last : (c x i : ℕ) (w : List Session) (z e : ℕ) → e ≤ i → length w ≤ z →
    Behind (flagging c x w (replicate z 0)) (behind_last c x i w e) i (length w) e
behind-last c x i [] z e h k = record { from = omega arith; within = omega arith; none = λ j a b. absurd (omega arith) }
behind-last c x i (s ∷ w) zero e h k = absurd (omega arith)
behind-last c x i (s ∷ w) (suc z) e h k =
    go (follows c x s) (behind-last c s.id (suc i) w z (suc i) (omega arith) (omega arith))
    (behind-last c x (suc i) w z e (omega arith) (omega arith))
  where
    go : (b : Bool) →
        Behind (flagging c s.id w (replicate z 0)) (behind_last c s.id (suc i) w (suc i)) (suc i) (length w) (suc i) →
        Behind (flagging c x w (replicate z 0)) (behind_last c x (suc i) w e) (suc i) (length w) e →
        Behind (cond b (1 ∷ flagging c s.id w (replicate z 0)) (0 ∷ flagging c x w (replicate z 0)))
        (cond b (behind_last c s.id (suc i) w (suc i)) (behind_last c x (suc i) w e)) i (suc (length w)) e
    go true m n = record { from = omega (arith, m.from); within = omega (arith, m.within); none = none }
      where
        none : (j : ℕ) → behind_last c s.id (suc i) w (suc i) ≤ i + j → j < suc (length w) →
            get_or (1 ∷ flagging c s.id w (replicate z 0)) j 0 ≡ 0
        none zero a b = absurd (omega (arith, m.from))
        none (suc j) a b = m.none j (omega arith) (omega arith)
    go false m n = record { from = n.from; within = omega (arith, n.within); none = none }
      where
        none : (j : ℕ) → behind_last c x (suc i) w e ≤ i + j → j < suc (length w) →
            get_or (0 ∷ flagging c x w (replicate z 0)) j 0 ≡ 0
        none zero a b = refl
        none (suc j) a b = n.none j (omega arith) (omega arith)

omit-nobody : (p : Session → Bool) (l : List Session) (i : ℕ) → i ≤ length l →
    ((j : ℕ) → i ≤ j → j < length l → p (get_or l j empty) ≡ false) → drop i l ≡ omit p (drop i l)
omit-nobody p [] zero h f = refl
omit-nobody p [] (suc i) h f = absurd (omega arith)
omit-nobody p (s ∷ l) zero h f =
    rw (f 0 (omega arith) (omega arith))
    (ap (λ (u : List Session). s ∷ u) (omit-nobody p l 0 (omega arith) (λ j a b. f (suc j) (omega arith) (omega arith))))
omit-nobody p (s ∷ l) (suc i) h f = omit-nobody p l i (omega arith) (λ j a b. f (suc j) (omega arith) (omega arith))

pub unflagged-last : (c x : ℕ) (w : List Session) (f : List ℕ) (r : ℕ) → Sorted w → length w ≤ 64 → f ≡ flagging c x w (replicate 64 0) →
    r ≡ behind_last c x 0 w 0 → Unflagged f r w
unflagged-last c x w f r o h q e =
    let b = behind-last c x 0 w 64 0 (omega arith) h in
    record {
      within = omega (arith, e, b.within);
      all = omit-nobody (flagged f w) w r (omega (arith, e, b.within))
          (λ j k l. flag_at f w j o l ∙ ap (λ (g : List ℕ). eqb 1 (get_or g j 0)) q ∙ ap (eqb 1) (b.none j (omega (arith, e, k)) l));
    }

-- no more wait than there are places
pub few-places : (m : List ℕ) → Form m → length (sessions Waiting m) ≤ places_of Waiting
few-places m f =
    let v = Waiting in
    let fits = used-fits (part (from_of v) (to_of v - from_of v) m) (ring_of v m) (get_or m (slot_of v) 0) f.waiting in
    omega (arith, counted v m f, room_at v refl refl f)

-- ## In order still

pub kept-ordered : (m : List ℕ) {s : Memory} → see m ≡ s → Ordered s.queue.waiting → Ordered (see m).queue.waiting
kept-ordered m e o = subst (λ (z : Memory). Ordered z.queue.waiting) (sym e) o

pub ended-ordered : (i : ℕ) (how : Ending) (m : List ℕ) {e n o : List ℕ} {len to : ℕ} → Does (one_ended Waiting i how) len m e to n o →
    Ordered (see m).queue.waiting → Ordered (see n).queue.waiting
unfolding one_ended
ended-ordered i how m {n = n} d o = kept-ordered n d.shows.is (ordered-fewer (fewer-remove_at i (see m).queue.waiting) o)

pub started-ordered : (i : ℕ) (how : Ending) (m : List ℕ) {e n o : List ℕ} {len to : ℕ} → Does (one_ended Started i how) len m e to n o →
    Ordered (see m).queue.waiting → Ordered (see n).queue.waiting
unfolding one_ended
started-ordered i how m {n = n} d o = kept-ordered n d.shows.is o

-- connection c is one of four, where one of its numbers is followed
pub conn-small : (c x : ℕ) (m : List ℕ) (i : ℕ) → Form m → i ≡ place (follows c x) (see m).queue.waiting
    → i < length (see m).queue.waiting → c ≤ 3
conn-small c x m i f e h =
    let w = (see m).queue.waiting in
    let k : place (follows c x) w < length w = omega arith in
    let g = get_or w (place (follows c x) w) empty in
    let t = and_both (eqb c g.conn) (eqb x g.prior) (place-holds (follows c x) w empty k) in
    omega (arith, eqb-true c g.conn t.0, all_get_d OfFour w (place (follows c x) w) empty k f.of_four)

-- ## `dismiss`

pub dismissed-flags : (r c x : ℕ) (m : List ℕ) (f : List ℕ) {e n o : List ℕ} {len to : ℕ} → Ordered (see m).queue.waiting
    → length (see m).queue.waiting ≤ 64 →
    f ≡ flagging c x (see m).queue.waiting (replicate 64 0) → Does (those_ended Waiting (flagged f (see m).queue.waiting) r) len m e to n
    o →
    Does (dismissed r c x) len m e to n o
unfolding dismissed those_ended
dismissed-flags r c x m f {e} {n} {o} {len} {to} ord h q d =
    let w = (see m).queue.waiting in
    let t = subst (λ (y : List ℕ). Does (those_ended Waiting (flagged y w) r) len m e to n o) q d in
    rw (← (flags-gone c x w ord h), ← (flags-left c x w ord h)) t
