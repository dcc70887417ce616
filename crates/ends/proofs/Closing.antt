-- The loops of `end_waiting_of`, of `end_covered_of` and of `end_due`: some of a list are passed, and the rest decides.
-- Rests on rules' laws of endings, of a record's length and of a list without one place.
use mathlib.Core.Path.{◌≡◌, refl, sym, ap, subst, ◌∙◌}
use mathlib.Core.Bool.{Bool, true, false, not}
use mathlib.Core.List.{List, [], ◌∷◌, ◌++◌, map, append_assoc, append-nil}
use Prim.Native.Nat.{ℕ, zero, suc, ◌+◌, ◌≤◌, ◌<◌}
use native.Mathlib.Omega.{arith}
use native.Mathlib.Numerals.{add-one}
use lib.ListN.{length, take, drop, get_or, drop_of_length-le}
use lib.Seq.{take-suc, take_all, take_at, drop_at, drop-cons, length-take-le, append_snoc}
use Rattle.rules.specs.declared.Session.{Session}
use Rattle.rules.specs.declared.Past.{Past}
use Rattle.rules.specs.declared.Ending.{Ending}
use Rattle.rules.specs.declared.Ninths.{Ninths}
use Rattle.rules.specs.declared.Ending.TheVariants.{Complete, Response}
use Rattle.rules.specs.Lists.{All, bit, put, keep, omit, remove_at}
use Rattle.rules.specs.State.{Lately, Queue, empty, of, ends_at, with_started, with_lately}
use Rattle.rules.specs.Recent.{remembered_all}
use Rattle.rules.specs.Records.{Record, output}
use Rattle.rules.specs.Ends.{ended, past, ending, one_end, endings}
use Rattle.rules.specs.Instants.{end_at}
use Rattle.rules.proofs.Count.{length-put, length-split, endings-map}
use Rattle.rules.proofs.Every.{fewer-all, fewer-remove_at}
use Rattle.rules.proofs.Size.{weight-none}
use Rattle.rules.proofs.Written.{length-written}
use Rattle.rules.proofs.Lately.{remembered-append}
use Rattle.memory.specs.declared.Which.{Which}
use Rattle.memory.specs.declared.Which.TheVariants.{Waiting, Started}
use Rattle.memory.specs.Memory.{Memory, see, sessions, list_of, listed, queued, relisted, Form, Now}
use Rattle.memory.proofs.Laws.{sessions-list}
use Rattle.ends.specs.Does.{Playable, room_for, Tells, Turns, Does, one_ended, those_ended, theirs_ended}
use Rattle.ends.proofs.Laws.{tells_none, tells-then, brief}

-- ## The records

-- those behind the first end all alike
endings-next : {A : Type 0} (f : Ending → Session → A) (h cover : Ending) (p : Session → Bool) (x : Session) (l : List Session) →
    endings h cover p (x ∷ l) A f ≡ put (p x) (f h x) [] ++ endings cover cover p l A f
unfolding endings
endings-next f h cover p x l = rw (endings-map f cover p l) (go (p x))
  where
    go : (b : Bool) → put b (f h x) (map (f cover) (keep p l)) ≡ put b (f h x) [] ++ map (f cover) (keep p l)
    go true = refl
    go false = refl

-- at most one end is written at a place
put-brief : (b : Bool) (h : Ending) (x : Session) → length (output (put b (ended h x) [])) ≤ room_for 1
put-brief true h x = brief h x
put-brief false h x = omega (arith, weight-none)

-- the next of a list
next : (l : List Session) (i : ℕ) → i < length l → drop i l ≡ get_or l i empty ∷ drop (i + 1) l
next l i h = rw (add-one i) (drop-cons l i empty h)

-- of the sessions l, the buffer e, written up to len, and what ended before: those before `rest` are passed, and h is for the next end
pub record Closing (p : Session → Bool) (air cover : Ending) (l rest : List Session) (e : List ℕ) (len : ℕ) (h : Ending) (to : ℕ)
    (o : List ℕ) (was now : Lately) : Type 0 where
  pub room : to + room_for (length rest) ≤ length e
  pub long : length o ≡ length e
  pub sofar : List Record
  pub tells : Tells e len sofar to o
  pub ends : endings air cover p l Record ended ≡ sofar ++ endings h cover p rest Record ended
  pub gone : List Past
  pub kept : now ≡ remembered_all gone was
  pub pasts : endings air cover p l Past past ≡ gone ++ endings h cover p rest Past past

module _ {p : Session → Bool} {air cover : Ending} {l : List Session} {e : List ℕ} {len : ℕ} {was : Lately} where
  pub closing-none : len + room_for (length l) ≤ length e → Closing p air cover l l e len air len e was was
  unfolding remembered_all
  closing-none h = record { room = h; long = refl; sofar = []; tells = tells_none; ends = refl; gone = []; kept = refl; pasts = refl }

  -- the rest is what stands from the place i of k
  module _ (k : List Session) (i : ℕ) {h : Ending} {to : ℕ} {o : List ℕ} {now : Lately}
      (v : Closing p air cover l (drop i k) e len h to o was now) where
    -- the next end fits
    pub closing-room : i < length k → to + room_for 1 ≤ length o
    closing-room b = omega (arith, v.room, v.long, ap length (drop-cons k i empty b))

    -- the next ends or stays
    pub closing-next : {to' : ℕ} {o' : List ℕ} {now' : Lately} → i < length k →
        let x = get_or k i empty in
        Tells o to (put (p x) (ended h x) []) to' o' → now' ≡ remembered_all (put (p x) (past h x) []) now →
        Closing p air cover l (drop (i + 1) k) e len cover to' o' was now'
    closing-next b t y =
        let x = get_or k i empty in
        let gone = put (p x) (past h x) [] in
        let one = put (p x) (ended h x) [] in
        let rest = drop (i + 1) k in
        let f : length (output one) ≤ room_for 1 = put-brief (p x) h x in
        let n : length (drop i k) ≡ suc (length rest) = ap length (next k i b) in
        record {
          room = omega (arith, v.room, t.count);
          long = ap length t.bytes ∙ length-written o to (output one) (omega (arith, v.room, v.long)) ∙ v.long;
          sofar = v.sofar ++ one;
          tells = tells-then (omega (arith, v.room, v.tells.count)) v.tells t;
          ends =
              v.ends
              ∙ ap (λ (y : List Record). v.sofar ++ y) (ap (λ (s : List Session). endings h cover p s Record ended) (next k i b)
              ∙ endings-next ended h cover p x rest)
              ∙ sym (append_assoc v.sofar one (endings cover cover p rest Record ended));
          gone = v.gone ++ gone;
          kept = y ∙ ap (remembered_all gone) v.kept ∙ sym (remembered-append v.gone gone was);
          pasts =
              v.pasts
              ∙ ap (λ (z : List Past). v.gone ++ z) (ap (λ (s : List Session). endings h cover p s Past past) (next k i b)
              ∙ endings-next past h cover p x rest)
              ∙ sym (append_assoc v.gone gone (endings cover cover p rest Past past));
        }

    -- all are passed
    pub closing-done : length k ≤ i → Tells e len (endings air cover p l Record ended) to o
    unfolding endings
    closing-done b =
        let r : endings air cover p l Record ended ≡ v.sofar = v.ends ∙ rw (drop_of_length-le k {i = i} b) (append-nil v.sofar) in
        subst (λ (y : List Record). Tells e len y to o) (sym r) v.tells

    pub closing-kept : length k ≤ i → now ≡ remembered_all (endings air cover p l Past past) was
    unfolding endings
    closing-kept b =
        let r : endings air cover p l Past past ≡ v.gone = v.pasts ∙ rw (drop_of_length-le k {i = i} b) (append-nil v.gone) in
        v.kept ∙ ap (λ (z : List Past). remembered_all z was) (sym r)

-- ## Those of a list that pass a test: the loops of `end_waiting_of` and of `end_flagged`

-- a list as long as before is without none
omit-none : (p : Session → Bool) (l : List Session) → length l ≤ length (omit p l) → omit p l ≡ l
omit-none p [] h = refl
omit-none p (x ∷ l) h = go (p x) h (omit-none p l)
  where
    go : (b : Bool) → suc (length l) ≤ length (put (not b) x (omit p l)) → (length l ≤ length (omit p l) → omit p l ≡ l)
        → put (not b) x (omit p l) ≡ x ∷ l
    go true k f = absurd (omega (arith, k, length-split p l))
    go false k f = ap (λ (u : List Session). x ∷ u) (f (omega (arith, k)))

-- what ended is kept beside the lists
list-late : (w : Which) (l : Lately) (q : Queue) → list_of w (with_lately l q) ≡ list_of w q
list-late Waiting l q = refl
list-late Started l q = refl

listed-late : (w : Which) (u : List Session) (l : Lately) (q : Queue) → listed w u (with_lately l q) ≡ with_lately l (listed w u q)
listed-late Waiting u l q = refl
listed-late Started u l q = refl

listed_same : (w : Which) (q : Queue) → listed w (list_of w q) q ≡ q
listed_same Waiting q = refl
listed_same Started q = refl

-- of what the words showed at first: the words m show all as it was but for what ended; of the list the first i are passed, and `left` of
-- them do not pass
pub record Theirs (p : Session → Bool) (r : ℕ) (w : Which) (s : Memory) (e : List ℕ) (len : ℕ) (m : List ℕ) (i to left : ℕ) (o : List ℕ) :
    Type 0 where
  pub form : Form m
  pub is : see m ≡ queued (with_lately (see m).queue.lately s.queue) s
  pub writes : Closing p (Response r) (Response r) (list_of w s.queue) (drop i (list_of w s.queue)) e len (Response r) to o
      s.queue.lately (see m).queue.lately
  pub few : left ≤ i
  pub rest : left + length (omit p (drop i (list_of w s.queue))) ≡ length (omit p (list_of w s.queue))

module _ {p : Session → Bool} {r : ℕ} {e : List ℕ} {len : ℕ} where
  pub theirs-none : (w : Which) (m : List ℕ) → Form m → len + room_for (length (sessions w m)) ≤ length e
      → Theirs p r w (see m) e len m 0 len 0 e
  theirs-none w m f h =
      record {
        form = f;
        is = refl;
        writes = closing-none (omega (arith, ap length (sessions-list w m)));
        few = omega arith;
        rest =
            omega arith;
      }

  module _ (w : Which) {s : Memory} {m : List ℕ} {i to left : ℕ} {o : List ℕ} (v : Theirs p r w s e len m i to left o) where
    abbrev list : List Session
    list = list_of w s.queue

    -- the list stands as it stood
    pub theirs-list : sessions w m ≡ list
    theirs-list = sessions-list w m ∙ ap (λ (z : Memory). list_of w z.queue) v.is ∙ list-late w (see m).queue.lately s.queue

    module _ (k : i < length list) where
      counted : bit (not (p (get_or list i empty))) + length (omit p (drop (i + 1) list)) ≡ length (omit p (drop i list))
      counted =
          let x = get_or list i empty in
          sym (ap (λ (u : List Session). length (omit p u)) (next list i k) ∙ length-put (not (p x)) x (omit p (drop (i + 1) list)))

      -- it passes, and its end is kept and written
      pub theirs-goes : {x : Session} {to' : ℕ} {n o' : List ℕ} → p (get_or list i empty) ≡ true → x ≡ get_or list i empty →
          Does (ending (one_end (Response r) x)) to m o to' n o' → Theirs p r w s e len n (i + 1) to' left o'
      theirs-goes {x} {n = n} d q t =
          let late : (see n).queue.lately ≡ remembered_all (past (Response r) x ∷ []) (see m).queue.lately =
          ap (λ (z : Memory). z.queue.lately) t.shows.is in
          record {
            form = t.shows.form;
            is =
                t.shows.is
                ∙ ap (λ (z : Memory). queued (with_lately (remembered_all (past (Response r) x ∷ []) (see m).queue.lately) z.queue) z)
                v.is
                ∙ ap (λ (y : Lately). queued (with_lately y s.queue) s) (sym late);
            writes = closing-next list i v.writes k (rw (d, ← q) t.tells) (rw (d, ← q) late);
            few = omega (arith, v.few);
            rest = omega (arith, v.rest, counted, ap (λ (b : Bool). bit (not b)) d);
          }

      -- it does not
      pub theirs-stays : p (get_or list i empty) ≡ false → Theirs p r w s e len m (i + 1) to (left + 1) o
      unfolding remembered_all
      theirs-stays d =
          record {
            form = v.form;
            is = v.is;
            writes = closing-next list i v.writes k (rw d tells_none) (rw d refl);
            few = omega (arith, v.few);
            rest = omega (arith, v.rest, counted, ap (λ (b : Bool). bit (not b)) d);
          }

    -- all are passed
    module _ (k : length list ≤ i) where
      pub theirs-left : left ≡ length (omit p list)
      theirs-left = omega (arith, v.rest, ap (λ (u : List Session). length (omit p u)) (drop_of_length-le list {i = i} k))

      theirs-told : Tells e len (map (ended (Response r)) (keep p list)) to o
      theirs-told = rw (← (endings-map ended (Response r) p list)) (closing-done list i v.writes k)

      theirs-kept : (see m).queue.lately ≡ remembered_all (map (past (Response r)) (keep p list)) s.queue.lately
      theirs-kept = rw (← (endings-map past (Response r) p list)) (closing-kept list i v.writes k)

      -- without them, and with their ends kept
      theirs-shown : relisted w (omit p (sessions w m)) (see m) ≡ queued (those_ended w p r s.queue).queue s
      unfolding those_ended
      theirs-shown =
          ap (λ (u : List Session). relisted w (omit p u) (see m)) theirs-list
          ∙ ap (relisted w (omit p list)) v.is
          ∙ ap (λ (q : Queue). queued q s)
          (listed-late w (omit p list) (see m).queue.lately s.queue
          ∙ ap (λ (y : Lately). with_lately y (listed w (omit p list) s.queue)) (late-listed w theirs-kept))
        where
          late-listed : (w : Which) → (see m).queue.lately ≡ remembered_all (map (past (Response r)) (keep p list)) s.queue.lately →
              (see m).queue.lately ≡ remembered_all (map (past (Response r)) (keep p list)) (listed w (omit p list) s.queue).lately
          late-listed Waiting e = e
          late-listed Started e = e

      -- and taken out
      pub theirs-done : {n : List ℕ} → Now n (relisted w (omit p (sessions w m)) (see m))
          → Turns e len (those_ended w p r s.queue) s n to o
      unfolding those_ended
      theirs-done z = record { shows = record { form = z.form; is = z.is ∙ theirs-shown }; tells = theirs-told }

      -- or none passes, and the words stay
      pub theirs-spared : length list ≤ left → Turns e len (those_ended w p r s.queue) s m to o
      theirs-spared h =
          let all : omit p list ≡ list = omit-none p list (omega (arith, h, theirs-left)) in
          let same : see m ≡ relisted w (omit p (sessions w m)) (see m) =
          sym (ap (λ (u : List Session). relisted w (omit p u) (see m)) theirs-list
          ∙ ap (λ (u : List Session). relisted w u (see m)) (all ∙ sym theirs-list ∙ sessions-list w m)
          ∙ ap (λ (q : Queue). queued q (see m)) (listed_same w (see m).queue)) in
          theirs-done (record { form = v.form; is = same })

-- nobody passes from a place on
omit-step : (p : Session → Bool) (x : Session) (l : List Session) → x ∷ l ≡ omit p (x ∷ l) → (p x ≡ false) × (l ≡ omit p l)
omit-step p x l = go (p x)
  where
    go : (b : Bool) → x ∷ l ≡ put (not b) x (omit p l) → (b ≡ false) × (l ≡ omit p l)
    go true e = absurd (omega (arith, ap length e, length-split p l))
    go false e = (refl, ap (drop 1) e)

pub theirs-by : {p : Session → Bool} {r : ℕ} {e : List ℕ} {len : ℕ} (w : Which) {s : Memory} {m : List ℕ} (i : ℕ) {to : ℕ} (left : ℕ)
    {o : List ℕ} (k j n : ℕ) → Theirs p r w s e len m i to left o → i + k ≡ length (list_of w s.queue) → j ≡ i + k → n ≡ left + k →
    drop i (list_of w s.queue) ≡ omit p (drop i (list_of w s.queue)) → Theirs p r w s e len m j to n o
theirs-by w i left zero j n v h f g a =
    let b : j ≡ i = omega (arith, f) in
    let c : n ≡ left = omega (arith, g) in
    rw (b, c) v
theirs-by {p} w {s} i left (suc k) j n v h f g a =
    let l = list_of w s.queue in
    let b : i < length l = omega (arith, h) in
    let c = omit-step p (get_or l i empty) (drop (i + 1) l) (sym (next l i b) ∙ a ∙ ap (omit p) (next l i b)) in
    theirs-by w (i + 1) (left + 1) k j n (theirs-stays w v b c.0) (omega (arith, h)) (omega (arith, f)) (omega (arith, g)) c.1

-- ## Started ones go one by one, and the others stay: the loops of `end_due` and of `end_covered_of`

-- a list without its place i
taken : (l : List Session) (i : ℕ) → i < length l → take i (remove_at i l) ≡ take i l
unfolding remove_at
taken l i h = take_at (take i l) (drop (suc i) l) i (length-take-le i l (omega arith))

dropped : (l : List Session) (i : ℕ) → i < length l → drop i (remove_at i l) ≡ drop (i + 1) l
unfolding remove_at
dropped l i h = rw (add-one i) (drop_at (take i l) (drop (suc i) l) i (length-take-le i l (omega arith)))

-- of what the words showed at first: the words m show the others as they were, of the started those that stay of the first ones
-- up to the place i, and all that are not passed
pub record Leaving (p : Session → Bool) (air cover : Ending) (s : Memory) (e : List ℕ) (len : ℕ) (m : List ℕ) (i : ℕ) (h : Ending) (to : ℕ)
    (o : List ℕ) : Type 0 where
  pub form : Form m
  pub kept : see m ≡ queued (with_lately (see m).queue.lately (with_started (see m).queue.started s.queue)) s
  pub playable : All Playable (see m).queue.started
  pub stay : omit p s.queue.started ≡ take i (see m).queue.started ++ omit p (drop i (see m).queue.started)
  pub writes : Closing p air cover s.queue.started (drop i (see m).queue.started) e len h to o s.queue.lately
      (see m).queue.lately

module _ {p : Session → Bool} {air cover : Ending} {e : List ℕ} {len : ℕ} where
  pub leaving-none : {m : List ℕ} → Form m → All Playable (see m).queue.started →
      len + room_for (length (see m).queue.started) ≤ length e → Leaving p air cover (see m) e len m 0 air len e
  leaving-none f a h = record { form = f; kept = refl; playable = a; stay = refl; writes = closing-none h }

  module _ {s : Memory} {m : List ℕ} {i : ℕ} {h : Ending} {to : ℕ} {o : List ℕ} (v : Leaving p air cover s e len m i h to o) where
    abbrev l : List Session
    l = (see m).queue.started

    module _ (k : i < length l) where
      -- it ends, and n is without it
      pub leaving-goes : {n : List ℕ} {to' : ℕ} {o' : List ℕ} → p (get_or l i empty) ≡ true → Does (one_ended Started i h) to m o to' n o' →
          Leaving p air cover s e len n i cover to' o'
      unfolding one_ended
      leaving-goes {n} {to'} {o'} d u =
          let g : remove_at i l ≡ (see n).queue.started = sym (ap (λ (z : Memory). z.queue.started) u.shows.is) in
          let tk : take i l ≡ take i (see n).queue.started = sym (taken l i k) ∙ ap (take i) g in
          let dr : drop (i + 1) l ≡ drop i (see n).queue.started = sym (dropped l i k) ∙ ap (drop i) g in
          let x = get_or l i empty in
          let late : (see n).queue.lately ≡ remembered_all (past h x ∷ []) (see m).queue.lately =
          ap (λ (z : Memory). z.queue.lately) u.shows.is in
          record {
            form = u.shows.form;
            kept =
                u.shows.is
                ∙ ap (λ (z : Memory). queued (with_lately (remembered_all (past h x ∷ []) (see m).queue.lately)
                (with_started (remove_at i l) z.queue)) z) v.kept
                ∙ (λ j. queued (with_lately (sym late j) (with_started (g j) s.queue)) s);
            playable = subst (All Playable) g (fewer-all Playable (fewer-remove_at i l) v.playable);
            stay = v.stay ∙ rw (next l i k, d, tk, dr) refl;
            writes =
                subst (λ (r : List Session). Closing p air cover s.queue.started r e len cover to' o' s.queue.lately
                (see n).queue.lately) dr
                (closing-next l i v.writes k (rw d u.tells) (rw d late));
          }

      -- it stays
      pub leaving-stays : p (get_or l i empty) ≡ false → Leaving p air cover s e len m (i + 1) cover to o
      unfolding remembered_all
      leaving-stays d =
          record {
            form = v.form;
            kept = v.kept;
            playable = v.playable;
            stay =
                v.stay
                ∙ rw (next l i k, d) (rw (add-one i, take-suc l i empty k)
                (sym (append_snoc (take i l) (get_or l i empty) (omit p (drop (suc i) l)))));
            writes = closing-next l i v.writes k (rw d tells_none) (rw d refl);
          }

-- all are passed
module _ {p : Session → Bool} {air cover : Ending} {s : Memory} {e o m : List ℕ} {len i to : ℕ} {h : Ending}
    (v : Leaving p air cover s e len m i h to o) (k : length (see m).queue.started ≤ i) where
  leaving-over : Turns e len (ending (endings air cover p s.queue.started) (with_started (omit p s.queue.started) s.queue)) s m to
      o
  leaving-over =
      let l = (see m).queue.started in
      let a : omit p s.queue.started ≡ l = v.stay ∙ rw (drop_of_length-le l {i = i} k, take_all i l k) (append-nil l) in
      record {
        shows = record {
          form = v.form;
          is = v.kept ∙ (λ j. queued
              (with_lately (closing-kept l i v.writes k j) (with_started (sym a j) s.queue)) s);
        };
        tells = closing-done l i v.writes k;
      }

-- at an instant
pub leaving-done : (t : Ninths) {s : Memory} {e o m : List ℕ} {len i to : ℕ} {h : Ending} →
    Leaving (ends_at t.0) (Complete 100) (Complete 125) s e len m i h to o → length (see m).queue.started ≤ i →
    Turns e len (end_at t.0 s.queue) s m to o
unfolding end_at
leaving-done t v k = leaving-over v k

-- at a close
pub leaving-theirs : (c : ℕ) {s : Memory} {e o m : List ℕ} {len i to : ℕ} {h : Ending} →
    Leaving (of c) (Response 116) (Response 116) s e len m i h to o → length (see m).queue.started ≤ i →
    Turns e len (theirs_ended Started c s.queue) s m to o
unfolding those_ended
leaving-theirs c {s} v k =
    let l = s.queue.started in
    rw (← (endings-map past (Response 116) (of c) l), ← (endings-map ended (Response 116) (of c) l)) (leaving-over v k)
