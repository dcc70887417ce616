-- The book of the accepted sessions beside the splicer: of each number, the newest entry has had its end or is held, and all older ones
-- have
-- had theirs. Rests on Laws (held before is held after or ended).
use mathlib.Core.Path.{◌≡◌, refl, ap, sym, subst, ◌∙◌}
use mathlib.Core.Bool.{Bool, true, false, cond, ◌&&◌, ◌||◌, and-false}
use mathlib.Core.List.{List, [], ◌∷◌}
use Prim.Native.Nat.{ℕ, ◌+◌, ◌<◌}
use native.Mathlib.Omega.{arith}
use native.Mathlib.Nat.{zero-add}
use lib.Dec.{eqb}
use lib.ListN.{length, get_or}
use borrow.Author.Tests.{eqb-true, ltb-true, not-false}
use Rattle.rules.specs.declared.Session.{Session}
use Rattle.rules.specs.declared.Start.{Start}
use Rattle.rules.specs.declared.Start.TheVariants.{Timed, Linked}
use Rattle.rules.specs.declared.Message.TheVariants.{Splice}
use Rattle.rules.specs.Units.{time_of, from_micros}
use Rattle.rules.specs.Lists.{All, bit, omit, count, place}
use Rattle.rules.specs.Bytes.{has_zero}
use Rattle.rules.specs.declared.Request.{Request}
use Rattle.rules.specs.Request.{read_splice}
use Rattle.rules.specs.Follows.ReadBack.{data_in}
use Rattle.rules.specs.State.{same_number, Queue, Splicer, empty, of, is, held, holds}
use Rattle.rules.specs.Recent.{none_held}
use Rattle.rules.proofs.Checks.{read-id}
use Rattle.rules.specs.Records.{Record, General, InitResponse, AliveResponse, SpliceResponse, SpliceComplete, AbortResponse, ConfigResponse}
use Rattle.rules.specs.Records.{ExtendedFound, ExtendedNone, CueRequest}
use Rattle.rules.specs.Ends.{Turn, writes, and_then, evicted, cancelled, closed_by}
use Rattle.rules.specs.Instants.{run_all}
use Rattle.rules.specs.Splicing.{end_of, start_of, session_at, requested, unknown_prior, accepts, accepted}
use Rattle.rules.specs.HouseNumbers.{Called}
use Rattle.rules.specs.Calls.{ticked, Call, call, after, named, fresh}
use Rattle.demands.specs.History.{end_result, is_end, is_yes, ends_of, front, last, Entry, entry_is, with_ends, credited, last_told}
use Rattle.demands.specs.History.{end_told}
use Rattle.demands.specs.History.{mux_told, event_told, start_told, end_asked, mux_asked, event_asked, entry_of, book_answered, with_closed}
use Rattle.demands.specs.History.{shut, book_after, prior_told, overrides_told, prior_asked, overrides_asked}
use Rattle.rules.specs.Follows.Sound.{Each, held_count}
use Rattle.rules.proofs.Tests.{clash, by, and_both, eqb_same}
use Rattle.rules.proofs.All.{all-into}
use Rattle.rules.proofs.Count.{bit_and, place-holds, some-place, count-le, count-other, count-omitted, count-split, some-none}
use Rattle.rules.proofs.Every.{all_both, all_get_d, all_none, fewer-each, all_held}
use Rattle.rules.proofs.Leaving.{evicted-fewer, aborted-fewer, closed_by-fewer}
use Rattle.rules.proofs.Sessions.{count_held, each-tick, each-accepted, held-accepted}
use Rattle.demands.proofs.Heard.{book_answer, book_of}
use Rattle.demands.proofs.Laws.{Law, evicted-law, closed_by-law, plain-law, answered-law, tick-law, Plain, plain-none}
use Rattle.demands.proofs.Cases.{cases}
use Rattle.demands.proofs.Waiting.{front-last, last-last}
use Rattle.std.specs.Prelude.{Some}

-- ## An end is of one number only

other-one : (b : Bool) (c x c' x' d y : ℕ) → same_number c x c' x' ≡ false → (b && same_number c' x' d y) ≡ true
    → (b && same_number c x d y) ≡ false
other-one b c x c' x' d y f e =
    let h = and_both b (same_number c' x' d y) e in
    let k = and_both (eqb c' d) (eqb x' y) h.1 in
    rw (← (eqb-true c' d k.0), ← (eqb-true x' y k.1), f, and-false)

end-one : (c x c' x' : ℕ) (r : Record) → same_number c x c' x' ≡ false → is_end c' x' r ≡ true → is_end c x r ≡ false
unfolding is_end
end-one c x c' x' (General d n) f e = refl
end-one c x c' x' (InitResponse d n name) f e = refl
end-one c x c' x' (AliveResponse d n a y t) f e = refl
end-one c x c' x' (SpliceResponse d n y) f e = other-one (end_result n) c x c' x' d y f e
end-one c x c' x' (SpliceComplete d n y k p) f e = other-one (eqb k 1 || (eqb k 0 && eqb n 109)) c x c' x' d y f e
end-one c x c' x' (AbortResponse d n y) f e = refl
end-one c x c' x' (CueRequest d a u l) f e = refl
end-one c x c' x' (ExtendedFound d y event ended played) f e = refl
end-one c x c' x' (ExtendedNone d y) f e = refl
end-one c x c' x' (ConfigResponse d n name h m) f e = refl

entry_key : (c x : ℕ) (e : Entry) → entry_is c x e ≡ true → (c ≡ e.conn) × (x ≡ e.id)
entry_key c x e k = let h = and_both (eqb c e.conn) (eqb x e.id) k in (eqb-true c e.conn h.0, eqb-true x e.id h.1)

-- the records that are no ends of an entry's session
abbrev rest : Entry → List Record → List Record
rest e rs = omit (is_end e.conn e.id) rs

-- ## One number

-- the older sessions of the number have had their end
abbrev pub Settled : ℕ → ℕ → List Entry → Type 0
Settled c x es = All (λ e. entry_is c x e ≡ true → e.ends ≡ 1) es

-- n sessions of the number are held: the newest has had its end or is held
abbrev pub Owed : ℕ → ℕ → ℕ → List Entry → Type 0
Owed c x n [] = n ≡ 0
Owed c x n (e ∷ es) = cond {A = Type 0} (entry_is c x e) ((e.ends + n ≡ 1) × (e.closed ≡ true → n ≡ 0) × Settled c x es) (Owed c x n es)

module _ (c x : ℕ) where
  settled-credited : (rs : List Record) (es : List Entry) → ends_of c x rs ≡ 0 → Settled c x es → Settled c x (credited rs es)
  unfolding credited
  settled-credited rs [] z s = tt
  settled-credited rs (e ∷ es) z s = (
    (λ k. let i = entry_key c x e k in let j : ends_of e.conn e.id rs ≡ 0 = rw (← i.0, ← i.1) z in omega (arith, s.0 k)),
    settled-credited (rest e rs) es (omega (arith, count-split (is_end c x) (is_end e.conn e.id) rs)) s.1,
  )

  -- the ends among rs
  owed-credited : (n m : ℕ) (rs : List Record) (es : List Entry) → n ≡ m + ends_of c x rs → Owed c x n es → Owed c x m (credited rs es)
  unfolding credited
  owed-credited n m rs [] h f = omega arith
  owed-credited n m rs (e ∷ es) h f = go (entry_is c x e) refl f (owed-credited n m (rest e rs) es)
    where
      go : (b : Bool) → entry_is c x e ≡ b → cond {A = Type 0} b ((e.ends + n ≡ 1) × (e.closed ≡ true → n ≡ 0) × Settled c x es)
          (Owed c x n es)
          → (n ≡ m + ends_of c x (rest e rs) → Owed c x n es → Owed c x m (credited (rest e rs) es))
          → cond {A = Type 0} b ((e.ends + ends_of e.conn e.id rs + m ≡ 1) × (e.closed ≡ true → m ≡ 0) × Settled c x
          (credited (rest e rs) es)) (Owed c x m (credited (rest e rs) es))
      go true k f ih =
          let i = entry_key c x e k in
          let j : ends_of e.conn e.id rs ≡ ends_of c x rs = rw (← i.0, ← i.1) in
          let z : ends_of c x (rest e rs) ≡ 0 = rw (i.0, i.1) (count-omitted (is_end e.conn e.id) rs) in
          (omega (arith, f.0), (λ l. omega (arith, f.1 l)), settled-credited (rest e rs) es z f.2)
      go false k f ih = ih (omega (
        arith,
        count-other (is_end c x) (is_end e.conn e.id) (λ r i. end-one c x e.conn e.id r k i)
            rs,
      )) f

  -- connection d closes, and holds none afterwards
  settled-shut : (d : ℕ) (es : List Entry) → Settled c x es → Settled c x (shut d es)
  unfolding shut
  settled-shut d [] s = tt
  settled-shut d (e ∷ es) s = (s.0, settled-shut d es s.1)

  owed-shut : (d n : ℕ) (es : List Entry) → (c ≡ d → n ≡ 0) → Owed c x n es → Owed c x n (shut d es)
  unfolding shut
  owed-shut d n [] h f = f
  owed-shut d n (e ∷ es) h f = go (entry_is c x e) refl f (owed-shut d n es h)
    where
      closes : entry_is c x e ≡ true → (b : Bool) → eqb d e.conn ≡ b → (e.closed ≡ true → n ≡ 0) → (b || e.closed) ≡ true → n ≡ 0
      closes k true i o l = h ((entry_key c x e k).0 ∙ sym (eqb-true d e.conn i))
      closes k false i o l = o l

      go : (b : Bool) → entry_is c x e ≡ b → cond {A = Type 0} b ((e.ends + n ≡ 1) × (e.closed ≡ true → n ≡ 0) × Settled c x es)
          (Owed c x n es)
          → (Owed c x n es → Owed c x n (shut d es))
          → cond {A = Type 0} b ((e.ends + n ≡ 1) × ((eqb d e.conn || e.closed) ≡ true → n ≡ 0) × Settled c x (shut d es))
          (Owed c x n (shut d es))
      go true k f ih = (f.0, (λ l. closes k (eqb d e.conn) refl f.1 l), settled-shut d es f.2)
      go false k f ih = ih f

  -- nothing held: all have had their end
  owed_none : (es : List Entry) → Owed c x 0 es → Settled c x es
  owed_none [] f = tt
  owed_none (e ∷ es) f = go (entry_is c x e) refl f (owed_none es)
    where
      go : (b : Bool) → entry_is c x e ≡ b → cond {A = Type 0} b ((e.ends + 0 ≡ 1) × (e.closed ≡ true → ◌≡◌ {A = ℕ} 0 0) × Settled c x es)
          (Owed c x 0 es)
          → (Owed c x 0 es → Settled c x es) → Settled c x (e ∷ es)
      go true k f ih = ((λ i. omega (arith, f.0)), f.2)
      go false k f ih = ((λ i. absurd (clash (entry_is c x e) i k)), ih f)

-- ## What the book says of a number

-- f says of an entry what it said when the session was accepted
record Lasting (f : Entry → ℕ) : Type 0 where
  credited : (rs : List Record) (e : Entry) → f (with_ends rs e) ≡ f e
  shut : (d : ℕ) (e : Entry) → f (with_closed d e) ≡ f e

told-credited : (f : Entry → ℕ) → Lasting f → (c x : ℕ) (rs : List Record) (es : List Entry)
    → last_told f c x (credited rs es) ≡ last_told f c x es
unfolding last_told credited
told-credited f h c x rs [] = refl
told-credited f h c x rs (e ∷ es) = rw (told-credited f h c x (rest e rs) es, h.credited rs e)

told-shut : (f : Entry → ℕ) → Lasting f → (c x d : ℕ) (es : List Entry) → last_told f c x (shut d es) ≡ last_told f c x es
unfolding last_told shut
told-shut f h c x d [] = refl
told-shut f h c x d (e ∷ es) = rw (told-shut f h c x d es, h.shut d e)

-- a session's end time, what it asks of the multiplexer, its SpliceEventID, PriorSession and OverridePlaying are what the book says
abbrev pub Dated : List Entry → Session → Type 0
Dated es s =
    (end_told s.conn s.id es ≡ s.end.0) × (mux_told s.conn s.id es ≡ s.mux) × (event_told s.conn s.id es ≡ s.event)
    × (prior_told s.conn s.id es ≡ s.prior) × (overrides_told s.conn s.id es ≡ s.overrides)

end-lasts : Lasting (λ e. e.end)
end-lasts = record { credited = λ rs e. refl; shut = λ d e. refl }

mux-lasts : Lasting (λ e. e.mux)
mux-lasts = record { credited = λ rs e. refl; shut = λ d e. refl }

event-lasts : Lasting (λ e. e.event)
event-lasts = record { credited = λ rs e. refl; shut = λ d e. refl }

prior-lasts : Lasting (λ e. e.prior)
prior-lasts = record { credited = λ rs e. refl; shut = λ d e. refl }

overrides-lasts : Lasting (λ e. e.overrides)
overrides-lasts = record { credited = λ rs e. refl; shut = λ d e. refl }

redated : (q : Queue) (es fs : List Entry) → ((f : Entry → ℕ) → Lasting f → (c x : ℕ) → last_told f c x fs ≡ last_told f c x es)
    → Each (Dated es) q → Each (Dated fs) q
redated q es fs h d =
    let same : (s : Session) → Dated es s → Dated fs s =
    λ s k. (
      h (λ e. e.end) end-lasts s.conn s.id ∙ k.0,
      h (λ e. e.mux) mux-lasts s.conn s.id ∙ k.1,
      h (λ e. e.event) event-lasts s.conn s.id ∙ k.2,
      h (λ e. e.prior) prior-lasts s.conn s.id ∙ k.3,
      h (λ e. e.overrides) overrides-lasts s.conn s.id ∙ k.4,
    ) in
    record {
      waiting = all-into (Dated es) (Dated fs) same q.waiting d.waiting;
      started =
          all-into (Dated es) (Dated fs) same q.started d.started;
    }

-- ## The book beside the sessions held

pub record Booked (q : Queue) (es : List Entry) : Type 0 where
  pub owed : (c x : ℕ) → Owed c x (held_count q (is c x)) es
  pub dated : Each (Dated es) q

-- a piece of work, and its ends credited
turn-booked : (q : Queue) (es : List Entry) (t : Turn) → Booked q es → ((c x : ℕ) → Law c x q t) → Each (Dated es) t.queue
    → Booked t.queue (credited t.written es)
turn-booked q es t b law d =
    record {
      owed = λ c x. owed-credited c x _ _ t.written es (law c x).kept (b.owed c x);
      dated = redated t.queue es (credited t.written es) (λ f h c x. told-credited f h c x t.written es) d;
    }

plain-booked : (q : Queue) (es : List Entry) (rs : List Record) → Plain rs → Booked q es → Booked q (credited rs es)
plain-booked q es rs p b =
    turn-booked q es (writes rs q) b (λ c x. plain-law c x q rs p) b.dated

shut-booked : (q : Queue) (es : List Entry) (d : ℕ) → ((x : ℕ) → held_count q (is d x) ≡ 0) → Booked q es → Booked q (shut d es)
shut-booked q es d none b =
    record {
      owed = λ c x. owed-shut c x d _ es (λ e. rw e (none x)) (b.owed c x);
      dated =
          redated q es (shut d es) (λ f h c x. told-shut f h c x d es) b.dated;
    }

-- the end of a number that is held
pub told-end : (c x : ℕ) (q : Queue) (es : List Entry) → Each (Dated es) q → holds c x q ≡ true → end_told c x es ≡ end_of c x (held q)
told-end c x q es d e =
    let l = held q in
    let i = place (is c x) l in
    let h : i < length l = ltb-true i (length l) (sym (some-place (is c x) l) ∙ e) in
    let s = get_or l i empty in
    let k = and_both (eqb c s.conn) (eqb x s.id) (place-holds (is c x) l empty h) in
    ap (λ n. end_told n x es) (eqb-true c s.conn k.0) ∙ ap (λ n. end_told s.conn n es) (eqb-true x s.id k.1)
    ∙ (all_get_d (Dated es) l i empty h (all_held (Dated es) q d)).0

told-start : (c : ℕ) (f : Start) (q : Queue) (es : List Entry) → Each (Dated es) q → unknown_prior c f q ≡ false
    → start_told c f es ≡ start_of c f q
unfolding start_told start_of unknown_prior
told-start c (Timed t) q es d e = refl
told-start c (Linked p) q es d e = told-end c p q es d (not-false _ e)

-- ## A session that is accepted

abbrev entry : Session → Entry
entry s =
    record {
      conn = s.conn;
      id = s.id;
      end = s.end.0;
      mux = s.mux;
      event = s.event;
      prior = s.prior;
      overrides = s.overrides;
      ends = 0;
      closed = false;
    }

module _ (new : Session) (q : Queue) (es : List Entry) (b : Booked q es) (none : held_count q (is new.conn new.id) ≡ 0) where
  abbrev t : Turn
  t = evicted new.start.0 q

  abbrev later : List Entry
  later = entry new ∷ credited t.written es

  gone : Booked t.queue (credited t.written es)
  gone = turn-booked q es t b (λ c x. evicted-law c x new.start.0 q)
      (fewer-each (Dated es) q t.queue (evicted-fewer new.start.0 q) b.dated)

  owed : (c x : ℕ) → Owed c x (held_count (accepted new q).queue (is c x)) later
  owed c x = subst (λ (n : ℕ). Owed c x n later) (sym (held-accepted (is c x) new q)) (go (is c x new) refl)
    where
      go : (k : Bool) → is c x new ≡ k
          → cond {A = Type 0} (is c x new) ((0 + (bit (is c x new) + held_count t.queue (is c x)) ≡ 1) ×
          (false ≡ true → bit (is c x new) + held_count t.queue (is c x) ≡ 0) × Settled c x (credited t.written es))
          (Owed c x (bit (is c x new) + held_count t.queue (is c x)) (credited t.written es))
      go true e =
          let h = and_both (eqb c new.conn) (eqb x new.id) e in
          let z : held_count q (is c x) ≡ 0 = rw (eqb-true c new.conn h.0, eqb-true x new.id h.1) none in
          let n : held_count t.queue (is c x) ≡ 0 = omega (arith, (evicted-law c x new.start.0 q).kept) in
          rw (e, n) (omega arith, (λ k. absurd (clash false k refl)), owed_none c x (credited t.written es) (rw n at (gone.owed c x)))
      go false e = rw (e, zero-add) (gone.owed c x)

  -- of another number the book says what it said
  still : (f : Entry → ℕ) → Lasting f → (u : Session) → is new.conn new.id u ≡ false
      → last_told f u.conn u.id later ≡ last_told f u.conn u.id es
  unfolding last_told
  still f h u o =
      by (λ (n : ℕ). n ≡ last_told f u.conn u.id es) (eqb u.conn new.conn && eqb u.id new.id) (f (entry new))
      (last_told f u.conn u.id (credited t.written es))
      (λ k. let i = and_both (eqb u.conn new.conn) (eqb u.id new.id) k in
      absurd (clash (is new.conn new.id u) (rw (
        ← (eqb-true u.conn new.conn i.0),
        ← (eqb-true u.id new.id i.1),
        eqb_same u.conn,
        eqb_same u.id,
      )) o))
      (λ k. told-credited f h u.conn u.id t.written es)

  old : (u : Session) → is new.conn new.id u ≡ false → Dated es u → Dated later u
  old u o h = (
    still (λ e. e.end) end-lasts u o ∙ h.0,
    still (λ e. e.mux) mux-lasts u o ∙ h.1,
    still (λ e. e.event) event-lasts u o ∙ h.2,
    still (λ e. e.prior) prior-lasts u o ∙ h.3,
    still (λ e. e.overrides) overrides-lasts u o ∙ h.4,
  )

  olds : (l : List Session) → count (is new.conn new.id) l ≡ 0 → All (Dated es) l → All (Dated later) l
  olds l z d =
      all-into (λ u. (is new.conn new.id u ≡ false) × Dated es u) (Dated later) (λ u h. old u h.0 h.1) l
      (all_both (λ u. is new.conn new.id u ≡ false) (Dated es) l (all_none (is new.conn new.id) l z) d)

  own : Dated later new
  unfolding last_told
  own = (
    rw (eqb_same new.conn, eqb_same new.id),
    rw (eqb_same new.conn, eqb_same new.id),
    rw (eqb_same new.conn, eqb_same new.id),
    rw (eqb_same new.conn, eqb_same new.id),
    rw (eqb_same new.conn, eqb_same new.id),
  )

  new-booked : Booked (accepted new q).queue later
  new-booked =
      record {
        owed = owed;
        dated = each-accepted (Dated later) (λ d s h. h) new q own
            (record {
              waiting = olds q.waiting (omega arith) b.dated.waiting;
              started =
                  olds q.started (omega arith) b.dated.started;
            });
      }

-- ## Every call

module _ (s : Splicer) (es : List Entry) (b : Booked s.queue es) where
  abbrev q : Queue
  q = s.queue

  abbrev pub Kept : Call → Called → Type 0
  Kept k r = Booked r.splicer.queue (book_answer k r.answer es)

  closed-booked : (d : ℕ) → Booked (closed_by d q).queue (shut d (credited (closed_by d q).written es))
  unfolding closed_by cancelled
  closed-booked d =
      shut-booked (closed_by d q).queue (credited (closed_by d q).written es) d
      (λ x. omega (arith, none x q.waiting, none x q.started))
      (turn-booked q es (closed_by d q) b (λ c x. closed_by-law c x d q) (fewer-each (Dated es) q _ (closed_by-fewer d q) b.dated))
    where
      none : (x : ℕ) (l : List Session) → count (is d x) (omit (of d) l) ≡ 0
      none x l = omega (
        arith,
        count-le (is d x) (of d) (λ u. bit_and (eqb d u.conn) (eqb x u.id)) (omit (of d) l),
        count-omitted (of d) l,
      )

  -- the entry of a request that is accepted
  pub asked_entry : (c : ℕ) (l : List ℕ) (r : Request) → read_splice (data_in l) ≡ Some (Splice r) → unknown_prior c r.start q ≡ false
      → entry_of c (data_in l) es ≡ entry (requested c r q)
  unfolding entry_of end_asked mux_asked event_asked prior_asked overrides_asked requested session_at
  asked_entry c l r e u = rw (e, ← (read-id (data_in l) r e), told-start c r.start q es b.dated u)

  tick-booked : (until : ℕ) → Booked (run_all s.clock until q).queue (credited (run_all s.clock until q).written es)
  tick-booked until = turn-booked q es (run_all s.clock until q) b (λ c x. tick-law c x s.clock until q)
      (each-tick (Dated es) (λ d u h. h) s.clock until q b.dated)

  pub call-booked : (k : Call) → Kept k (call k s)
  unfolding book_after book_answered front last accepted and_then is_yes requested session_at ticked
  call-booked =
      cases s Kept (record {
        refusing = λ k n. b;
        opening = λ c low e. plain-booked q es [] plain-none b;
        closing = λ c room low e. closed-booked c;
        saying = λ c l loans n rs e p. rw e (plain-booked q es rs p b);
        naming = λ c l loans n r hw e p. rw e (plain-booked q es (r ∷ []) p b);
        aborting = λ c l loans n x e i. rw e (turn-booked q es _ b (λ d y. answered-law d y c x q)
            (fewer-each (Dated es) q _ (aborted-fewer c x q) b.dated));
        declining = λ c l loans n r e y o. rw (e, y) (plain-booked q es [] plain-none b);
        accepting = λ c l loans n r e f p. let new = requested c r q in
            let rs = (evicted new.start.0 q).written in
            rw (
              e,
              ← (read-id (data_in l) r f),
              last-last (is_yes c r.id) rs (accepts new),
              front-last rs (accepts new),
              eqb_same c,
              eqb_same r.id,
              asked_entry c l r f p.prior,
            )
            (new-booked new q es b (omega (arith, some-none (is c r.id) (held q) p.number, count_held (is c r.id) q)));
        ticking = λ seconds micros room le. tick-booked (from_micros (time_of seconds micros)).0;
        moving = λ until room le. tick-booked until;
        cueing = λ l pts seconds micros room rs p. plain-booked q es rs p b;
      })

pub booked-always : (ks : List Call) (s : Splicer) (es : List Entry) → Booked s.queue es → Booked (after ks s).queue (book_of ks s es)
unfolding after book_of
booked-always [] s es b = b
booked-always (k ∷ ks) s es b = booked-always ks (call k s).splicer (book_answer k (call k s).answer es) (call-booked s es b k)

pub booked-fresh : (name : List ℕ) → Booked (fresh name).splicer.queue []
unfolding fresh named
booked-fresh name =
    let none : Booked none_held [] = record { owed = λ c x. omega arith; dated = record { waiting = tt; started = tt } } in
    by (λ (r : Called). Booked r.splicer.queue []) (has_zero name) _ _ (λ e. none) (λ e. none)
