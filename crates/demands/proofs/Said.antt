-- Each SpliceComplete flag 1 in an answer tells its session's time, counted from the history with this call.
-- Rests on Owners (what was told is what was counted) and on Laws (no number ends twice in one answer).
use mathlib.Core.Path.{◌≡◌, refl, ap, sym, subst, ◌∙◌}
use mathlib.Core.Bool.{Bool, true, false, cond}
use mathlib.Core.List.{List, [], ◌∷◌, ◌++◌, map}
use Prim.Native.Nat.{ℕ, zero, suc, ◌+◌, ◌/◌, ◌≤◌, ◌<◌}
use native.Mathlib.Omega.{arith}
use lib.Dec.{eqb, ltb}
use lib.ListN.{length, get_or}
use borrow.Author.Tests.{eqb-true, ltb-true}
use Rattle.rules.specs.declared.Session.{Session}
use Rattle.rules.specs.Units.{time_of, from_micros}
use Rattle.rules.specs.Lists.{All, bit, some, count, place, remove_at}
use Rattle.rules.specs.declared.Ending.TheVariants.{Response}
use Rattle.rules.specs.State.{same_number, Queue, Splicer, empty, is, held, starts_at}
use Rattle.rules.specs.Records.{Record, General, InitResponse, AliveResponse, SpliceResponse, SpliceComplete, AbortResponse, ConfigResponse}
use Rattle.rules.specs.Records.{ExtendedFound, ExtendedNone, CueRequest}
use Rattle.rules.specs.Follows.ReadBack.{records_in}
use Rattle.rules.specs.Ends.{Turn, and_then, ended, aborted, evicted, evicted_at, dismissed, followers, closed_by}
use Rattle.rules.specs.Instants.{run_all}
use Rattle.rules.specs.Splicing.{requested, accepts, accepted}
use Rattle.rules.specs.HouseNumbers.{Called, written_by}
use Rattle.rules.specs.Calls.{ticked, Call, call, after}
use Rattle.demands.specs.History.{is_start, is_end, ends_of, Event, history}
use Rattle.rules.specs.Follows.Sound.{held_count, Wired, Sound}
use Rattle.rules.proofs.Tests.{by, clash, and_both, eqb_same}
use Rattle.rules.proofs.All.{all-into, all_append}
use Rattle.rules.proofs.Count.{place-holds, some-place, some-none}
use Rattle.rules.proofs.Every.{all_get_d, all_none}
use Rattle.rules.proofs.Sessions.{count_held}
use Rattle.rules.proofs.Fitted.{records_of}
use Rattle.rules.proofs.Sound.{sound-found}
use Rattle.demands.specs.Told.{FromFresh, is_out}
use Rattle.demands.specs.Airing.{Airing, airing_is, nobodys, newest, begins, lists, says_played, ends, marked, concerns, heard, by_then}
use Rattle.demands.specs.Airing.{heard_all, aired_answered, aired_after, air_time, airings_told}
use Rattle.demands.specs.Moments.{PlayedAs}
use Rattle.demands.proofs.Laws.{Law, Plain, closed_by-law, answered-law, tick-law, outs-ends}
use Rattle.demands.proofs.Cases.{cases}
use Rattle.demands.proofs.Room.{from-sound}
use Rattle.demands.proofs.Once.{clock-told}
use Rattle.demands.proofs.Closed.{from_more}
use Rattle.demands.proofs.Marks.{EndOf, heard-end, newest-same}
use Rattle.demands.proofs.Owned.{Waits, Plays, Listed, Base}
use Rattle.demands.proofs.Owners.{aired_answer, airings_of, airings-more, Kept, owned-told, owned-more, start}

-- ## A record of another number, or no end, leaves what was told

-- what is told of an end
pub record Alike (a b : Airing) : Type 0 where
  pub over : b.over ≡ a.over
  pub listed : b.listed ≡ a.listed
  pub said : b.said ≡ a.said

module _ (c x t : ℕ) (r : Record) (no : is_end c x r ≡ false) where
  marked-mild : (a : Airing) (l : List Airing) → Alike (newest c x (a ∷ l)) (newest c x (marked t r a ∷ l))
  unfolding newest
  marked-mild a l = go (airing_is c x a) refl (is_start a.conn a.id r) (is_end a.conn a.id r) refl
    where
      same : (b : Bool) → Alike (cond b a (newest c x l)) (cond b (begins a) (newest c x l))
      same true = record { over = refl; listed = refl; said = refl }
      same false = record { over = refl; listed = refl; said = refl }

      go : (b : Bool) → airing_is c x a ≡ b → (s e : Bool) → is_end a.conn a.id r ≡ e
          → Alike (newest c x (a ∷ l)) (newest c x (cond s (begins a) (cond e (ends t r a) a) ∷ l))
      go b k true e f = same (airing_is c x a)
      go b k false false f = record { over = refl; listed = refl; said = refl }
      go false k false true f = rw k (record { over = refl; listed = refl; said = refl })
      go true k false true f =
          let h = and_both (eqb a.conn c) (eqb a.id x) k in
          absurd (clash (is_end c x r) (rw (← (eqb-true a.conn c h.0), ← (eqb-true a.id x h.1)) f) no)

  heard-mild : (l : List Airing) → Alike (newest c x l) (newest c x (heard t r l))
  unfolding heard newest
  heard-mild [] = record { over = refl; listed = refl; said = refl }
  heard-mild (a ∷ l) = go (concerns r a) (heard-mild l)
    where
      pass : (b : Bool) → Alike (newest c x l) (newest c x (heard t r l))
          → Alike (cond b a (newest c x l)) (cond b a (newest c x (heard t r l)))
      pass true h = record { over = refl; listed = refl; said = refl }
      pass false h = h

      go : (b : Bool) → Alike (newest c x l) (newest c x (heard t r l))
          → Alike (cond (airing_is c x a) a (newest c x l)) (newest c x (cond b (marked t r a ∷ l) (a ∷ heard t r l)))
      go true h = marked-mild a l
      go false h = pass (airing_is c x a) h

alike_then : {a b c : Airing} → Alike a b → Alike b c → Alike a c
alike_then h k = record { over = k.over ∙ h.over; listed = k.listed ∙ h.listed; said = k.said ∙ h.said }

-- ## What the answer says

module _ (c x u : ℕ) where
  zero_one : (p : Record → Bool) (r : Record) (rs : List Record) → count p (r ∷ rs) ≡ 0 → (p r ≡ false) × (count p rs ≡ 0)
  zero_one p r rs e = go (p r) e
    where
      go : (b : Bool) → bit b + count p rs ≡ 0 → (b ≡ false) × (count p rs ≡ 0)
      go true e = absurd (omega arith)
      go false e = (refl, omega arith)

  heard_all-mild : (rs : List Record) (l : List Airing) → ends_of c x rs ≡ 0 → Alike (newest c x l) (newest c x (heard_all u rs l))
  unfolding heard_all
  heard_all-mild [] l e = record { over = refl; listed = refl; said = refl }
  heard_all-mild (r ∷ rs) l e =
      let z = zero_one (is_end c x) r rs e in
      alike_then (heard-mild c x (by_then u l rs) r z.0 l) (heard_all-mild rs (heard (by_then u l rs) r l) z.1)

  -- the session of the number has been told to have had its end r
  abbrev Told : Airing → Record → Type 0
  Told a r = (a.listed ≡ true) × (a.said ≡ says_played r)

  -- an end of what was on air
  out-end : (r : Record) → is_out c x r ≡ true → (lists r ≡ true) × EndOf c x r
  unfolding is_out is_end is_start lists
  out-end (General d n) e = absurd (clash false e refl)
  out-end (InitResponse d n name) e = absurd (clash false e refl)
  out-end (AliveResponse d n a y t) e = absurd (clash false e refl)
  out-end (SpliceResponse d n y) e = absurd (clash false e refl)
  out-end (SpliceComplete d n y f p) e =
      let h = and_both (eqb f 1) (same_number c x d y) e in
      let k = and_both (eqb c d) (eqb x y) h.1 in
      let i = eqb-true f 1 h.0 in
      (h.0, record { ends = λ d' y'. rw (i, eqb-true c d k.0, eqb-true x y k.1); starts = λ d' y'. rw i })
  out-end (AbortResponse d n y) e = absurd (clash false e refl)
  out-end (CueRequest d a u l) e = absurd (clash false e refl)
  out-end (ExtendedFound d y event ended played) e = absurd (clash false e refl)
  out-end (ExtendedNone d y) e = absurd (clash false e refl)
  out-end (ConfigResponse d n name h m) e = absurd (clash false e refl)

  is-end : (r : Record) → EndOf c x r → is_end c x r ≡ true
  is-end r e = e.ends c x ∙ rw (eqb_same c, eqb_same x)

  no-outs : (rs : List Record) → ends_of c x rs ≡ 0 → All (λ r. is_out c x r ≡ false) rs
  no-outs rs e = all_none (is_out c x) rs (omega (arith, outs-ends c x rs))

  heard_all-told : (rs : List Record) (l : List Airing) → (newest c x l).over ≡ false → ends_of c x rs ≤ 1
      → All (λ r. is_out c x r ≡ true → Told (newest c x (heard_all u rs l)) r) rs
  unfolding heard_all
  heard_all-told [] l o h = tt
  heard_all-told (r ∷ rs) l o h = go (is_end c x r) refl (heard_all-told rs m)
    where
      m : List Airing
      m = heard (by_then u l rs) r l

      first : ends_of c x rs ≡ 0 → is_out c x r ≡ true → Told (newest c x (heard_all u rs (heard (by_then u l rs) r l))) r
      first z i =
          let e = out-end r i in
          let k = heard_all-mild rs (heard (by_then u l rs) r l) z in
          let n : newest c x (heard (by_then u l rs) r l) ≡ ends (by_then u l rs) r (newest c x l) =
          ap (newest c x) (heard-end c x (by_then u l rs) r e.1 l) ∙ newest-same c x (ends (by_then u l rs) r) (λ a. refl) (λ a. refl) l o
          in
          (k.listed ∙ ap (λ (a : Airing). a.listed) n ∙ e.0, k.said ∙ ap (λ (a : Airing). a.said) n)

      go : (b : Bool) → is_end c x r ≡ b
          → ((newest c x (heard (by_then u l rs) r l)).over ≡ false → ends_of c x rs ≤ 1
          → All (λ r'. is_out c x r' ≡ true → Told (newest c x (heard_all u rs (heard (by_then u l rs) r l))) r') rs)
          → (is_out c x r ≡ true → Told (newest c x (heard_all u rs (heard (by_then u l rs) r l))) r)
          × All (λ r'. is_out c x r' ≡ true → Told (newest c x (heard_all u rs (heard (by_then u l rs) r l))) r') rs
      go true e ih =
          let z : ends_of c x rs ≡ 0 = omega (arith, h, ap bit e) in (
            first z,
            all-into (λ r'. is_out c x r' ≡ false) (λ r'. is_out c x r' ≡ true
                → Told (newest c x (heard_all u rs (heard (by_then u l rs) r l))) r') (λ r' f i. absurd (clash (is_out c x r') i f)) rs
                (no-outs rs z),
          )
      go false e ih =
          let k = heard-mild c x (by_then u l rs) r e l in
          ((λ i. absurd (clash (is_end c x r) (is-end r (out-end r i).1) e)), ih (k.over ∙ o) (omega (arith, h, ap bit e)))

-- ## Every call

module _ (c x : ℕ) where
  no-out-responses : (n : ℕ) (g : List Session) → All (λ r. is_out c x r ≡ false) (map (ended (Response n)) g)
  unfolding is_out
  no-out-responses n [] = tt
  no-out-responses n (s ∷ g) = (refl, no-out-responses n g)

  no-out-evicted : (t : ℕ) (q : Queue) → All (λ r. is_out c x r ≡ false) (evicted t q).written
  unfolding evicted evicted_at and_then dismissed is_out
  no-out-evicted t q =
      let i = place (starts_at t) q.waiting in
      let s = get_or q.waiting i empty in
      by (λ (r : Turn). All (λ r. is_out c x r ≡ false) r.written) (ltb i (length q.waiting)) _ _
      (λ e. (refl, no-out-responses 109 (followers s.conn s.id (remove_at i q.waiting)).gone)) (λ e. tt)

module _ (β : Base) (s : Splicer) (l : List Airing) (h : Sound s) (o : Kept β s l) (c x : ℕ) where
  abbrev q : Queue
  q = s.queue

  abbrev Open : Session → Type 0
  Open u = (newest u.conn u.id l).over ≡ false

  opens-told : All Open (held q)
  opens-told =
      all_append Open q.waiting q.started (all-into (Waits l) Open (λ u i. ap (λ (a : Airing). a.over) i.told) q.waiting
      o.waits)
      (all-into (Plays s.clock l) Open (λ u i. ap (λ (a : Airing). a.over) i.told) q.started o.plays)

  -- what is held has had no end
  held-open : 0 < held_count q (is c x) → (newest c x l).over ≡ false
  held-open lt = go (some (is c x) (held q)) refl
    where
      go : (b : Bool) → some (is c x) (held q) ≡ b → (newest c x l).over ≡ false
      go false e = absurd (omega (arith, some-none (is c x) (held q) e, count_held (is c x) q))
      go true e =
          let i = place (is c x) (held q) in
          let k : i < length (held q) = ltb-true i (length (held q)) (sym (some-place (is c x) (held q)) ∙ e) in
          let u = get_or (held q) i empty in
          let n = and_both (eqb c u.conn) (eqb x u.id) (place-holds (is c x) (held q) empty k) in
          ap (λ d. (newest d x l).over) (eqb-true c u.conn n.0) ∙ ap (λ d. (newest u.conn d l).over) (eqb-true x u.id n.1)
          ∙ all_get_d Open (held q) i empty k opens-told

  nothing-out : (m : List Airing) (rs : List Record) → All (λ r. is_out c x r ≡ false) rs
      → All (λ r. is_out c x r ≡ true → Told c x 0 (newest c x m) r) rs
  nothing-out m rs a = all-into (λ r. is_out c x r ≡ false) (λ r. is_out c x r ≡ true → Told c x 0 (newest c x m) r)
      (λ r f i. absurd (clash (is_out c x r) i f)) rs a

  turn-told : (u : ℕ) (t : Turn) → Law c x q t → All (λ r. is_out c x r ≡ true → Told c x 0 (newest c x (heard_all u t.written l)) r)
      t.written
  turn-told u t law = go (ends_of c x t.written) refl
    where
      go : (n : ℕ) → ends_of c x t.written ≡ n → All (λ r. is_out c x r ≡ true → Told c x 0 (newest c x (heard_all u t.written l)) r)
          t.written
      go zero e = nothing-out (heard_all u t.written l) t.written (no-outs c x u t.written e)
      go (suc n) e = heard_all-told c x u t.written l (held-open (omega (arith, law.kept)))
          (omega (arith, law.kept, h.holding.once c x))

  abbrev Then : Call → Called → Type 0
  Then k r = All (λ i. is_out c x i ≡ true → Told c x 0 (newest c x (aired_answer r.splicer.clock k r.answer l)) i)
      (records_of r.answer)

  plain_out : (m : List Airing) (rs : List Record) → Plain rs → All (λ r. is_out c x r ≡ true → Told c x 0 (newest c x m) r) rs
  plain_out m rs p = nothing-out m rs (no-outs c x 0 rs (p.ends c x))

  tick-told : (until : ℕ) → All (λ r. is_out c x r ≡ true → Told c x 0 (newest c x (heard_all until (run_all s.clock until q).written l))
      r) (run_all s.clock until q).written
  tick-told until = turn-told until (run_all s.clock until q) (tick-law c x s.clock until q)

  call-told : (k : Call) → Then k (call k s)
  unfolding aired_after aired_answered accepted and_then is_out ticked
  call-told =
      cases s Then (record {
        refusing = λ k n. tt;
        opening = λ d low e. tt;
        closing = λ d room low e. turn-told s.clock (closed_by d q) (closed_by-law c x d q);
        saying = λ d b loans n rs e p. plain_out _ rs p;
        naming = λ d b loans n r hw e p. plain_out _ (r ∷ []) p;
        aborting = λ d b loans n y e i. let rs = AbortResponse d 100 y ∷ (aborted d y q).written in
            let m : aired_answered s.clock d b rs l ≡ heard_all s.clock rs l = rw e refl in
            subst (λ (m : List Airing). All (λ r. is_out c x r ≡ true → Told c x 0 (newest c x m) r) rs) (sym m)
            (turn-told s.clock _ (answered-law c x d y q));
        declining = λ d b loans n r e y f. ((λ i. absurd (clash (is_out c x r) i (f.outs c x))), tt);
        accepting = λ d b loans n r e f p. let new = requested d r q in
            nothing-out _ ((evicted new.start.0 q).written ++ (accepts new ∷ []))
            (all_append (λ r. is_out c x r ≡ false) (evicted new.start.0 q).written (accepts new ∷ [])
            (no-out-evicted c x new.start.0 q) (refl, tt));
        ticking = λ seconds micros room le. tick-told (from_micros (time_of seconds micros)).0;
        moving = λ until room le. tick-told until;
        cueing = λ m pts seconds micros room rs p. plain_out _ rs p;
      })

-- ## From bytes alone

newest-all : (P : Airing → Type 0) (c x : ℕ) (l : List Airing) → P nobodys → All P l → P (newest c x l)
unfolding newest
newest-all P c x [] n a = n
newest-all P c x (y ∷ l) n a = by P (airing_is c x y) y (newest c x l) (λ e. a.0) (λ e. newest-all P c x l n a.1)

pub played-as-counted : (h : List Event) (s : Splicer) → FromFresh h s → (k : Call) → Wired k
    → PlayedAs (h ++ history (k ∷ []) s) (records_in (written_by (call k s).answer))
unfolding airings_of after
played-as-counted h s f k w c x =
    let g = h ++ history (k ∷ []) s in
    let z = from-sound h s f in
    let o = owned-told h s f in
    let p = owned-more h s f (k ∷ []) (w, tt) in
    let l = airings_told g in
    let t = (call k s).splicer.clock in
    let e = airings-more h s f (k ∷ []) (w, tt) in
    let i : Listed t l (newest c x l) = newest-all (Listed t l) c x l
    (record { over = λ b. absurd (clash false b refl); said = λ b. absurd (clash false b refl) }) p.listed in
    rw (sound-found s k w z, clock-told g (call k s).splicer (from_more h s f (k ∷ []) (w, tt)))
    (all-into (λ r. is_out c x r ≡ true → Told c x 0 (newest c x (aired_answer t k (call k s).answer (airings_told h))) r)
    (λ r. is_out c x r ≡ true → says_played r ≡ air_time t l (newest c x l) / 100)
    (λ r j b. let m = rw (← e) at (j b) in sym m.1 ∙ i.said m.0) (records_of (call k s).answer)
    (call-told start s (airings_told h) z o c x k))
