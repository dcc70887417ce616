-- Who owned each ninth, after every sequence of calls: the history's sessions beside those held, the primary channel's sum and the clock.
-- Rests on Moments (each piece of work), on Sound (times, AccessTypes) and on the bytes giving back their records.
use mathlib.Core.Path.{◌≡◌, refl, ap, sym, subst, ◌∙◌}
use mathlib.Core.Bool.{Bool, true, false}
use mathlib.Core.List.{List, [], ◌∷◌, ◌++◌}
use Prim.Native.Nat.{ℕ, ◌+◌, ◌-◌, ◌/◌, ◌≤◌, ◌<◌, min}
use native.Mathlib.Omega.{arith}
use lib.Dec.{eqb}
use lib.ListN.{length, get_or}
use borrow.Author.Tests.{eqb-true, ltb-true, not-false}
use Rattle.rules.specs.declared.Session.{Session}
use Rattle.rules.specs.declared.Request.{Request}
use Rattle.rules.specs.declared.Start.{Start}
use Rattle.rules.specs.declared.Start.TheVariants.{Timed, Linked}
use Rattle.rules.specs.declared.Message.TheVariants.{Splice}
use Rattle.rules.specs.Units.{time_of, from_micros}
use Rattle.rules.specs.Lists.{All, bit, count, place}
use Rattle.rules.specs.Bytes.{has_zero}
use Rattle.rules.specs.Request.{session_id, read_splice}
use Rattle.rules.specs.Follows.ReadBack.{data_in}
use Rattle.rules.specs.State.{Queue, Splicer, empty, is, held, starts_after}
use Rattle.rules.specs.Records.{Record}
use Rattle.rules.specs.Follows.ReadBack.{records_in}
use Rattle.rules.specs.Ends.{and_then, evicted}
use Rattle.rules.specs.Splicing.{start_of, session_at, requested, unknown_prior, inserted, accepts, accepted}
use Rattle.rules.specs.HouseNumbers.{Answer, refused, good, Called, written_by}
use Rattle.rules.specs.Calls.{ticked, Call, call, after, named, fresh}
use Rattle.demands.specs.History.{Event, reply_of, history, is_start, is_end, is_yes, front, last, clock_replied, clock_after}
use Rattle.rules.specs.Follows.Sound.{Each, held_count, Wired, Sound}
use Rattle.rules.proofs.Tests.{by, and_both, eqb_same}
use Rattle.rules.proofs.All.{all-into, all_append}
use Rattle.rules.proofs.Count.{place-holds, some-place, some-none, count-insert_at}
use Rattle.rules.proofs.Every.{all_get_d, all_inserted}
use Rattle.rules.proofs.Checks.{read-id}
use Rattle.rules.proofs.Leaving.{evicted-fewer}
use Rattle.rules.proofs.Sessions.{count_held, fewer-held}
use Rattle.rules.proofs.Fitted.{records_of}
use Rattle.rules.proofs.Silence.{silent_all-most}
use Rattle.rules.proofs.Sound.{sound-call, sound-fresh, sound-found}
use Rattle.demands.specs.Told.{FromFresh}
use Rattle.demands.specs.Airing.{Airing, newest, by_then, heard_all, start_asked, airing_asked, aired_answered, aired_after}
use Rattle.demands.specs.Airing.{aired_replied, airings, during, peak_at, top_at, primary_time, air_time, sum_by}
use Rattle.demands.specs.Airing.{airings_told, clock_told, primary_told, time_told, air_told, number_told}
use Rattle.demands.specs.Moments.{Gapless, Printed, Within, oldest, newer, stands}
use Rattle.demands.proofs.Laws.{Plain}
use Rattle.demands.proofs.Cases.{cases}
use Rattle.demands.proofs.Waiting.{front-last, last-last}
use Rattle.demands.proofs.Once.{call-clock, fresh-clock, clock-told}
use Rattle.demands.proofs.Room.{from-sound}
use Rattle.demands.proofs.Closed.{from_more}
use Rattle.demands.proofs.Ninths
use Rattle.demands.proofs.Ninths.{during-same}
use Rattle.demands.proofs.Marks
use Rattle.demands.proofs.Marks.{heard-plain, Stays, Onward, nothing, stays, onward-same, peak-onward}
use Rattle.demands.proofs.Owned.{airing, Waits, Plays, Listed, Past, Base, Owned, time-waiting, time-grows, over-on, accept-new}
use Rattle.demands.proofs.Owned.{reorder}
use Rattle.demands.proofs.Moments.{evicted-owned, closed_by-owned, aborted-owned, tick-clocked}
use Rattle.std.specs.Prelude.{Some}

-- ## Records that tell nothing

count-zero : (p : Record → Bool) (r : Record) (rs : List Record) → count p (r ∷ rs) ≡ 0 → (p r ≡ false) × (count p rs ≡ 0)
count-zero p r rs e = go (p r) e
  where
    go : (b : Bool) → bit b + count p rs ≡ 0 → (b ≡ false) × (count p rs ≡ 0)
    go true e = absurd (omega arith)
    go false e = (refl, omega arith)

heard_all-plain : (u : ℕ) (rs : List Record) (l : List Airing) → Plain rs → heard_all u rs l ≡ l
unfolding heard_all
heard_all-plain u [] l p = refl
heard_all-plain u (r ∷ rs) l p =
    ap (heard_all u rs)
    (heard-plain (by_then u l rs) r (λ d y. (count-zero (is_start d y) r rs (p.starts d y)).0)
    (λ d y. (count-zero (is_end d y) r rs (p.ends d y)).0) l)
    ∙ heard_all-plain u rs l (record {
      starts = λ d y. (count-zero (is_start d y) r rs (p.starts d y)).1;
      ends =
          λ d y. (count-zero (is_end d y) r rs (p.ends d y)).1;
    })

-- ## A session that is accepted

module _ (β : Base) (now pr : ℕ) (q : Queue) (l : List Airing) (o : Owned β now pr q.waiting q.started l) where
  abbrev Ends : Session → Type 0
  Ends s = (newest s.conn s.id l).end ≡ s.end.0

  ends-told : All Ends (held q)
  ends-told =
      all_append Ends q.waiting q.started (all-into (Waits l) Ends (λ s h. ap (λ (x : Airing). x.end) h.told) q.waiting
      o.waits)
      (all-into (Plays now l) Ends (λ s h. ap (λ (x : Airing). x.end) h.told) q.started o.plays)

  told-start : (c : ℕ) (f : Start) → unknown_prior c f q ≡ false → start_asked c f l ≡ start_of c f q
  unfolding start_asked start_of unknown_prior
  told-start c (Timed t) e = refl
  told-start c (Linked p) e =
      let i = place (is c p) (held q) in
      let h : i < length (held q) = ltb-true i (length (held q)) (sym (some-place (is c p) (held q)) ∙ not-false _ e) in
      let s = get_or (held q) i empty in
      let k = and_both (eqb c s.conn) (eqb p s.id) (place-holds (is c p) (held q) empty h) in
      ap (λ n. (newest n p l).end) (eqb-true c s.conn k.0) ∙ ap (λ n. (newest s.conn n l).end) (eqb-true p s.id k.1)
      ∙ all_get_d Ends (held q) i empty h ends-told

  asked-airing : (c : ℕ) (d : List ℕ) (r : Request) → read_splice d ≡ Some (Splice r) → unknown_prior c r.start q ≡ false
      → airing_asked c (session_id d) (read_splice d) l ≡ airing false (requested c r q)
  unfolding airing_asked requested session_at
  asked-airing c d r e u = rw (e, ← (read-id d r e), told-start c r.start u)

  accepted-owned : (u : ℕ) (new : Session) → new.played.0 ≡ 0 → held_count q (is new.conn new.id) ≡ 0
      → Owned β now pr (accepted new q).queue.waiting (accepted new q).queue.started
      (airing false new ∷ heard_all u (evicted new.start.0 q).written l)
  unfolding accepted and_then inserted
  accepted-owned u new z none =
      let v = (evicted new.start.0 q).queue in
      let m = heard_all u (evicted new.start.0 q).written l in
      let j = airing false new ∷ m in
      reorder β now pr (new ∷ v.waiting) v.started (inserted new v.waiting) v.started j
      (λ p. count-insert_at p (place (starts_after new.start.0) v.waiting) new v.waiting) (λ p. refl)
      (λ a. all_inserted (Waits j) new v.waiting a.0 a.1) (λ a. a)
      (accept-new β now pr new v.waiting v.started m (omega
      (arith, fewer-held (is new.conn new.id) q v (evicted-fewer new.start.0 q))) z
      (evicted-owned β now pr u new.start.0 q l o))

-- ## Every call

abbrev pub aired_answer : ℕ → Call → Answer → List Airing → List Airing
aired_answer u k (refused n) l = l
aired_answer u k (good consumed rs) l = aired_after u k rs l

-- of a splicer: its clock, its primary sum and the sessions that it holds
abbrev pub Kept : Base → Splicer → List Airing → Type 0
Kept β s l = Owned β s.clock s.primary s.queue.waiting s.queue.started l

module _ (β : Base) (s : Splicer) (l : List Airing) (h : Sound s) (o : Kept β s l) where
  abbrev q : Queue
  q = s.queue

  abbrev pub Then : Call → Called → Type 0
  Then k r = Kept β r.splicer (aired_answer r.splicer.clock k r.answer l)

  ending : All (λ u. (s.clock ≤ u.end.0) × (min u.end.0 s.clock ≤ s.clock)) q.started
  ending = all-into (λ u. s.clock < u.end.0) (λ u. (s.clock ≤ u.end.0) × (min u.end.0 s.clock ≤ s.clock))
      (λ u i. (omega arith, omega arith)) q.started h.holding.timed.ends

  plain-owned : (rs : List Record) → Plain rs → Kept β s (heard_all s.clock rs l)
  plain-owned rs p = rw (heard_all-plain s.clock rs l p) o

  tick-owned : (until : ℕ) → s.clock ≤ until → Kept β (ticked until s).splicer (heard_all until (records_of (ticked until s).answer) l)
  unfolding ticked
  tick-owned until le = (tick-clocked β s.clock s.primary until q l le
      (record { timed = h.holding.timed; falling = h.holding.falling; owned = o })).owned

  pub call-owned : (k : Call) → Then k (call k s)
  unfolding aired_after aired_answered heard_all front last is_yes accepted and_then requested session_at ticked
  call-owned =
      cases s Then (record {
        refusing = λ k n. o;
        opening = λ c low e. o;
        closing = λ c room low e. closed_by-owned β s.clock s.primary s.clock (omega arith) c q l ending o;
        saying = λ c b loans n rs e p. rw e (plain-owned rs p);
        naming = λ c b loans n r hw e p. rw e (plain-owned (r ∷ []) p);
        aborting = λ c b loans n x e i. rw e (aborted-owned β s.clock s.primary s.clock (omega arith) c x q l ending o);
        declining = λ c b loans n r e y f. rw (e, y) o;
        accepting = λ c b loans n r e f p. let new = requested c r q in
            let rs = (evicted new.start.0 q).written in
            rw (
              e,
              asked-airing β s.clock s.primary q l o c (data_in b) r f p.prior,
              ← (read-id (data_in b) r f),
              last-last (is_yes c r.id) rs (accepts new),
              front-last rs (accepts new),
              eqb_same c,
              eqb_same r.id,
            )
            (accepted-owned β s.clock s.primary q l o s.clock new refl
            (omega (arith, some-none (is c r.id) (held q) p.number, count_held (is c r.id) q)));
        ticking = λ seconds micros room le. tick-owned (from_micros (time_of seconds micros)).0 le;
        moving = λ until room le. tick-owned until le;
        cueing = λ m pts seconds micros room rs p. plain-owned rs p;
      })

-- ## Every sequence of calls

unfoldable pub airings_of : List Call → Splicer → List Airing → List Airing
airings_of [] s l = l
airings_of (k ∷ ks) s l = airings_of ks (call k s).splicer (aired_answer (call k s).splicer.clock k (call k s).answer l)

pub owned-always : (β : Base) (ks : List Call) (s : Splicer) (l : List Airing) → All Wired ks → Sound s → Kept β s l
    → Kept β (after ks s) (airings_of ks s l)
unfolding after airings_of
owned-always β [] s l a h o = o
owned-always β (k ∷ ks) s l a h o =
    owned-always β ks (call k s).splicer (aired_answer (call k s).splicer.clock k (call k s).answer l) a.1 (sound-call s k a.0 h)
    (call-owned β s l h o k)

-- the bytes give back the records
pub aired-answer : (u : ℕ) (k : Call) (a : Answer) (l : List Airing) → records_in (written_by a) ≡ records_of a
    → aired_replied u k (reply_of a) l ≡ aired_answer u k a l
unfolding aired_replied
aired-answer u k (refused n) l e = refl
aired-answer u k (good consumed rs) l e = ap (λ (r : List Record). aired_after u k r l) e

airings-found : (ks : List Call) (s : Splicer) (l : List Airing) → All Wired ks → Sound s
    → airings (history ks s) s.clock l ≡ airings_of ks s l
unfolding airings history airings_of
airings-found [] s l a h = refl
airings-found (k ∷ ks) s l a h =
    let r = call k s in
    ap (λ (u : ℕ). airings (history ks r.splicer) u (aired_replied u k (reply_of r.answer) l)) (call-clock s k)
    ∙ ap (airings (history ks r.splicer) r.splicer.clock) (aired-answer r.splicer.clock k r.answer l
    (sound-found s k a.0 h))
    ∙ airings-found ks r.splicer (aired_answer r.splicer.clock k r.answer l) a.1 (sound-call s k a.0 h)

-- nothing yet
abbrev pub start : Base
start = record { time = 0; told = [] }

pub owned-fresh : (name : List ℕ) → Kept start (fresh name).splicer []
unfolding fresh named primary_time during
owned-fresh name =
    let none : Owned start 0 0 [] [] [] =
    record {
      from = omega arith;
      since = nothing;
      listed = tt;
      primary = refl;
      waits = tt;
      plays = tt;
      once = λ c x. omega arith;
      live =
          λ p. refl;
      unended =
          λ p. refl;
      past = tt;
      distinct = λ n h v. absurd (omega arith);
    }
    in
    by (λ (r : Called). Kept start r.splicer []) (has_zero name) _ _ (λ e. none) (λ e. none)

pub owned-told : (h : List Event) (s : Splicer) → FromFresh h s → Kept start s (airings_told h)
owned-told h s f =
    let first = (fresh f.name).splicer in
    let z = sound-fresh f.name f.whole f.bytes in
    let e : airings_told h ≡ airings_of f.calls first [] =
    ap (λ (g : List Event). airings_told g) f.heard ∙ ap (λ (n : ℕ). airings (history f.calls first) n [])
    (sym (fresh-clock f.name)) ∙ airings-found f.calls first [] f.wired z
    in
    rw (e, f.same) (owned-always start f.calls first [] f.wired z (owned-fresh f.name))

-- ## "Every moment belongs to someone"

pub every-moment : (h : List Event) (s : Splicer) → FromFresh h s → primary_told h + air_told h ≡ clock_told h
every-moment h s f =
    let l = airings_told h in
    subst (λ (c : ℕ). primary_time c l + sum_by (air_time c l) l ≡ c) (sym (clock-told h s f))
    (Ninths.every-moment s.clock l (owned-told h s f).distinct)

-- "a primary sum it keeps from now on"
pub primary-kept : (h : List Event) (s : Splicer) → FromFresh h s → s.primary ≡ primary_told h
primary-kept h s f = sym (rw (clock-told h s f) (owned-told h s f).primary)

-- "The sums that the engine itself keeps": the time of the session that its connection last accepted under its number
pub air-kept : (h : List Event) (s : Splicer) → FromFresh h s → Each (λ u. u.played.0 ≡ number_told h u.conn u.id) s.queue
air-kept h s f =
    let o = owned-told h s f in
    let l = airings_told h in
    rw (clock-told h s f)
    (record {
      waiting = all-into (Waits l) (λ u. u.played.0 ≡ air_time s.clock l (newest u.conn u.id l))
          (λ u i. rw i.told (i.silent ∙ sym (time-waiting s.clock l u))) s.queue.waiting o.waits;
      started = all-into (Plays s.clock l) (λ u. u.played.0 ≡ air_time s.clock l (newest u.conn u.id l))
          (λ u i. rw i.told (sym i.played)) s.queue.started o.plays;
    })

-- ## Between any two points

-- what a call adds to the primary sum, and to the clock
record Adds (s t : Splicer) : Type 0 where
  clock : s.clock ≤ t.clock
  least : s.primary ≤ t.primary
  most : t.primary ≤ s.primary + (t.clock - s.clock)

adds_none : (s : Splicer) → Adds s s
adds_none s = record { clock = omega arith; least = omega arith; most = omega arith }

call-adds : (s : Splicer) → Sound s → (k : Call) → Adds s (call k s).splicer
unfolding ticked
call-adds s h =
    cases s (λ k r. Adds s r.splicer) (record {
      refusing = λ k n. adds_none s;
      opening = λ c low e. record { clock = omega arith; least = omega arith; most = omega arith };
      closing = λ c room low e. record { clock = omega arith; least = omega arith; most = omega arith };
      saying = λ c b loans n rs e p. adds_none s;
      naming = λ c b loans n r hw e p. record { clock = omega arith; least = omega arith; most = omega arith };
      aborting = λ c b loans n x e i. record { clock = omega arith; least = omega arith; most = omega arith };
      declining = λ c b loans n r e y f. adds_none s;
      accepting = λ c b loans n r e f p. record { clock = omega arith; least = omega arith; most = omega arith };
      ticking = λ seconds micros room le. brings (from_micros (time_of seconds micros)).0 le;
      moving = λ until room le. brings until le;
      cueing = λ l pts seconds micros room rs p. adds_none s;
    })
  where
    brings : (until : ℕ) → s.clock ≤ until → Adds s (ticked until s).splicer
    brings until le = record {
      clock = le;
      least = omega arith;
      most =
          omega (arith, silent_all-most s.clock until s.queue le h.holding.timed);
    }

-- and more calls
calls-add : (ks : List Call) (s : Splicer) → All Wired ks → Sound s → Adds s (after ks s)
unfolding after
calls-add [] s a h = adds_none s
calls-add (k ∷ ks) s a h =
    let d = call-adds s h k in
    let e = calls-add ks (call k s).splicer a.1 (sound-call s k a.0 h) in
    record {
      clock = omega (arith, d.clock, e.clock);
      least = omega (arith, d.least, e.least);
      most = omega (arith, d.clock, e.clock, d.most, e.most);
    }

airings-append : (h g : List Event) (now : ℕ) (l : List Airing) → airings (h ++ g) now l ≡ airings g (clock_after h now) (airings h now l)
unfolding airings clock_after
airings-append [] g now l = refl
airings-append (e ∷ h) g now l =
    let u = clock_replied e.call e.reply now in
    airings-append h g u (aired_replied u e.call e.reply l)

-- more calls from a splicer that was reached
module _ (h : List Event) (s : Splicer) (f : FromFresh h s) (js : List Call) (w : All Wired js) where
  pub airings-more : airings_told (h ++ history js s) ≡ airings_of js s (airings_told h)
  airings-more =
      airings-append h (history js s) 0 [] ∙ ap (λ (n : ℕ). airings (history js s) n (airings_told h)) (clock-told h s f)
      ∙ airings-found js s (airings_told h) w (from-sound h s f)

  abbrev pub here : Base
  here = record { time = s.clock; told = airings_told h }

  -- from here on
  rebased : Kept here s (airings_told h)
  rebased =
      let o = owned-told h s f in
      record {
        from = omega arith;
        since = onward-same s.clock (airings_told h);
        listed = o.listed;
        primary = o.primary;
        waits = o.waits;
        plays = o.plays;
        once = o.once;
        live = o.live;
        unended = o.unended;
        past = o.past;
        distinct = o.distinct;
      }

  pub owned-more : Kept here (after js s) (airings_told (h ++ history js s))
  owned-more = rw airings-more (owned-always here js s (airings_told h) w (from-sound h s f) rebased)

pub no_gap : (h : List Event) (s : Splicer) → FromFresh h s → (js : List Call) → All Wired js → Gapless h (h ++ history js s)
no_gap h s f js w =
    let g = h ++ history js s in
    let more = from_more h s f js w in
    let a = calls-add js s w (from-sound h s f) in
    let pm = primary-kept g (after js s) more in
    let p = primary-kept h s f in
    let m₁ = every-moment h s f in
    let m₂ = every-moment g (after js s) more in
    let c₁ = clock-told h s f in
    let c₂ = clock-told g (after js s) more in
    record {
      primary = omega (arith, a.least);
      air = omega (arith, a.least, a.most, a.clock);
      clock = omega (arith, a.clock);
      whole = omega (arith, a.least, a.most, a.clock);
    }

-- ## "The sums .. from which PlayedDuration is rounded": what was told of a session is its time, now and in every later list

pub lists-as-counted : (h : List Event) (s : Splicer) → FromFresh h s
    → All (λ a. a.listed ≡ true → a.said ≡ time_told h a / 100) (airings_told h)
lists-as-counted h s f =
    let l = airings_told h in
    rw (clock-told h s f) (all-into (Listed s.clock l) (λ a. a.listed ≡ true → a.said ≡ air_time s.clock l a / 100) (λ a i. i.said)
    l (owned-told h s f).listed)

module _ (now t : ℕ) (le : now ≤ t) (l m : List Airing) (peaks : (n : ℕ) → n < now → peak_at n m ≡ peak_at n l) where
  abbrev Times : Airing → Airing → Type 0
  Times a b = (air_time now l a ≤ air_time t m b) × (a.over ≡ true → (b ≡ a) × (air_time t m b ≡ air_time now l a))

  before : (a b : Airing) → Stays now a b → air_time now m b ≡ air_time now l a
  unfolding air_time
  before a b h = during-same now (λ n. top_at n m b) (λ n. top_at n l a) (λ n i. rw (h.quiet n i, h.access, peaks n i))

  times : (a b : Airing) → Past now a → Stays now a b → Times a b
  times a b p h = (
    omega (arith, before a b h, time-grows now t le m b),
    λ o. let e = h.fixed o in
        (e, rw e (over-on now t le m a p o) ∙ before a b h),
  )

  abbrev Keeps : Airing → Airing → Type 0
  Keeps a b = (b.conn ≡ a.conn) × (b.id ≡ a.id) × (b.access ≡ a.access) × Times a b

  within : (j k : List Airing) → All (Past now) j → Onward now j k → Within Keeps j k
  within j k p nothing = oldest
  within j k p (Marks.newer q o) = newer (within _ _ p o)
  within j k p (stays {a = a} {b = b} h o) = stands (h.conn, h.id, h.access, times a b p.0 h) (within _ _ p.1 o)

within-into : {R S : Airing → Airing → Type 0} → ((a b : Airing) → R a b → S a b) → {l m : List Airing} → Within R l m → Within S l m
within-into f oldest = oldest
within-into f (newer w) = newer (within-into f w)
within-into f (stands {a = a} {b = b} r w) = stands (f a b r) (within-into f w)

-- a session's own time never falls, and is fixed once its end is written: a list printed later says the same
pub prints-alike : (h : List Event) (s : Splicer) → FromFresh h s → (js : List Call) → All Wired js
    → Within (Printed h (h ++ history js s)) (airings_told h) (airings_told (h ++ history js s))
prints-alike h s f js w =
    let g = h ++ history js s in
    let l = airings_told h in
    let m = airings_told g in
    let more = from_more h s f js w in
    let o = owned-more h s f js w in
    let c₁ = clock-told h s f in
    let c₂ = clock-told g (after js s) more in
    let le = (calls-add js s w (from-sound h s f)).clock in
    within-into (λ a b k. rw-printed h g s.clock (after js s).clock c₁ c₂ a b k)
    (within s.clock (after js s).clock le l m (λ n i. peak-onward s.clock n i o.since) l m (owned-told h s f).past o.since)
  where
    rw-printed : (h g : List Event) (now t : ℕ) → clock_told h ≡ now → clock_told g ≡ t → (a b : Airing)
        → (b.conn ≡ a.conn) × (b.id ≡ a.id) × (b.access ≡ a.access)
        × ((air_time now (airings_told h) a ≤ air_time t (airings_told g) b)
        × (a.over ≡ true → (b ≡ a) × (air_time t (airings_told g) b ≡ air_time now (airings_told h) a)))
        → Printed h g a b
    rw-printed h g now t e f a b k = record {
      conn = k.0;
      id = k.1;
      access = k.2;
      grows = rw (e, f) k.3.0;
      fixed =
          rw (e, f) k.3.1;
    }
