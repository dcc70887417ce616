-- All that holds of every splicer that fresh and the calls since have given. Assumes only that bytes are bytes and Seconds four of
-- them (Wired), and that the name has 32 bytes.
use mathlib.Core.Path.{◌≡◌, refl, sym, ap, ◌∙◌}
use mathlib.Core.List.{List, [], ◌∷◌, ◌++◌}
use Prim.Native.Nat.{ℕ, zero, suc, ◌+◌, ◌-◌, ◌≤◌, ◌<◌}
use native.Mathlib.Omega.{arith}
use lib.ListN.{length}
use Rattle.rules.specs.declared.Ninths.{Ninths}
use Rattle.rules.specs.declared.Session.{Session}
use Rattle.rules.specs.Bytes.{has_zero}
use Rattle.rules.specs.State.{Queue, Splicer, due, not_after}
use Rattle.rules.specs.Recent.{none_held}
use Rattle.rules.specs.Follows.ReadBack.{records_in}
use Rattle.rules.specs.Ends.{Turn, and_then}
use Rattle.rules.specs.Instants.{instant, elapse, run, run_all}
use Rattle.rules.specs.HouseNumbers.{Called, written_by}
use Rattle.rules.specs.Calls.{named, fresh, Call, call, after}
use Rattle.rules.proofs.Tests.{by}
use Rattle.rules.proofs.All.{All, all-into, all_append}
use Rattle.rules.proofs.Bytes.{Byte}
use Rattle.rules.proofs.Every.{all_both, Each}
use Rattle.rules.proofs.Cases.{Brings, tick, move}
use Rattle.rules.proofs.Always.{Wired, Kept, KeptHeld, held_kept, call_kept, always}
use Rattle.rules.proofs.Tick.{Due, meets, due-first, due-meets, elapse-due, moved, by_next}
use Rattle.rules.proofs.Sessions.{each-elapse, each-instant, waiting-instant}
use Rattle.rules.proofs.Timed.{meets-after}
use Rattle.rules.proofs.Silence.{silent_all-most}
use Rattle.rules.proofs.Aired.{elapse-played, Aired, aired-kept, moved-aired}
use Rattle.rules.proofs.Ranked.{Falling, falling-kept, falling-instant, falling-on_air, ten}
use Rattle.rules.proofs.Room.{Room, room-kept, room-fewer, room-none, sixty-four}
use Rattle.rules.proofs.Held.{Proper, Small, proper-plays, small-plays, small-kept, Linking, structure-at, linking-kept}
use Rattle.rules.proofs.Held.{linking-fresh}
use Rattle.rules.proofs.Priors.{Chained, Orderly, orderly}
use Rattle.rules.proofs.Chained.{chained-kept, moved-chained}
use Rattle.rules.proofs.Bounds.{horizon, longest, never, ends-early}
use Rattle.rules.proofs.Fitted.{records_of, found}
use Rattle.rules.proofs.Size.{call-size}
use Rattle.rules.proofs.Lately.{Notable, Keeping, aborted-keeps, closed_by-keeps, accepted-recalls, instant-recalls, recalled-none}
pub use Rattle.rules.specs.Follows.Sound.{Holding, Recalled, Sound, Reached}
use Rattle.std.specs.Prelude.{Some}

-- ## Of the sessions held at a time: the clock, or an instant of a tick

module _ {now : ℕ} {q : Queue} where
  pub chained : Holding now q → Chained now q
  chained h = record { timed = h.timed; proper = h.proper; once = h.once; tied = h.tied }

  aired : Holding now q → Aired now q
  aired h = record { timed = h.timed; played = h.played }

  joined : Chained now q → Aired now q → Falling q.started → Room q.waiting → Each Small q → Holding now q
  joined c a f r s =
      record { timed = c.timed; played = a.played; falling = f; room = r; proper = c.proper; small = s; once = c.once; tied = c.tied }

  pub few-wait : Holding now q → length q.waiting ≤ 64
  few-wait h = sixty-four q.waiting (all-into Proper (λ s. s.conn ≤ 3) (λ s p. p.conn) q.waiting h.proper.waiting) h.room

  pub few-started : Holding now q → length q.started ≤ 10
  few-started h = ten q.started h.falling (all-into Proper (λ s. s.access ≤ 9) (λ s p. p.access) q.started h.proper.started)

  -- what a walk through the waiting needs
  pub in_order : Holding now q → Orderly q.waiting
  in_order h = orderly now q (chained h)

  pub early : Holding now q → now < horizon → Each (λ s. s.end.0 < never) q
  early h e = ends-early now q e h.timed h.played h.proper h.small h.tied (few-wait h)

-- from one instant of a tick to the next
pub holding-moved : (now t : ℕ) (q : Queue) → Due t q → 0 < meets t q → Holding now q → Holding t (instant t (elapse (t - now) q)).queue
unfolding elapse
holding-moved now t q d m h =
    let u = elapse (t - now) q in
    joined (moved-chained now t q d (chained h)) (moved-aired now t q d m (aired h))
    (falling-instant t u (falling-on_air (t - now) q.started h.falling))
    (room-fewer q.waiting _ (waiting-instant t u) h.room) (each-instant Small small-plays t u
    (each-elapse Small small-plays (t - now) q h.small))

-- the next instant not later than until is after the time now
pub next-after : (now until : ℕ) (t : Ninths) (q : Queue) → not_after until (due q) ≡ Some t → Holding now q → now < t.0
next-after now until t q e h = meets-after now t.0 q h.timed (due-meets until t q e)

pub holding-next : (now until : ℕ) (t : Ninths) (q : Queue) → not_after until (due q) ≡ Some t → Holding now q
    → Holding t.0 (moved now t.0 q).queue
holding-next now until t q e h = holding-moved now t.0 q (due-first until t q e) (due-meets until t q e) h

-- no PlayedDuration is longer than the longest Duration: at the present time, and at t before its work, if nothing is due before t
pub played-now : (now : ℕ) (q : Queue) → Holding now q → All (λ s. s.played.0 ≤ longest) q.started
played-now now q h =
    all-into (λ s. ((s.start.0 + s.played.0 ≤ now) × (now < s.end.0)) × Small s) (λ s. s.played.0 ≤ longest)
    (λ s a. omega (arith, a.0.0, a.0.1, a.1.duration)) q.started
    (all_both (λ s. (s.start.0 + s.played.0 ≤ now) × (now < s.end.0)) Small q.started
    (all_both (λ s. s.start.0 + s.played.0 ≤ now) (λ s. now < s.end.0) q.started h.played.since h.timed.ends)
    h.small.started)

pub played-then : (now t : ℕ) (q : Queue) → now ≤ t → Due t q → Holding now q
    → All (λ s. s.played.0 ≤ longest) (elapse (t - now) q).started
played-then now t q le d h =
    let u = elapse (t - now) q in
    all-into (λ s. ((s.start.0 + s.played.0 ≤ t) × (t ≤ s.end.0)) × Small s) (λ s. s.played.0 ≤ longest)
    (λ s a. omega (arith, a.0.0, a.0.1, a.1.duration)) u.started
    (all_both (λ s. (s.start.0 + s.played.0 ≤ t) × (t ≤ s.end.0)) Small u.started
    (all_both (λ s. s.start.0 + s.played.0 ≤ t) (λ s. t ≤ s.end.0) u.started (elapse-played now t q le h.played).since
    (elapse-due t (t - now) q d).ends)
    (each-elapse Small small-plays (t - now) q h.small).started)

pub holding-kept : KeptHeld Wired Holding
holding-kept =
    let c : KeptHeld Wired Chained = chained-kept in
    let a : KeptHeld Wired Aired = aired-kept in
    let f : KeptHeld Wired (λ now q. Falling q.started) = falling-kept in
    let r : KeptHeld Wired (λ now q. Room q.waiting) = room-kept in
    let s = small-kept in
    record {
      closing = λ now q d h. joined (c.closing now q d (chained h)) (a.closing now q d (aired h)) (f.closing now q d h.falling)
          (r.closing now q d h.room) (s.closing now q d h.small);
      aborting = λ now q d x e h. joined (c.aborting now q d x e (chained h)) (a.aborting now q d x e (aired h))
          (f.aborting now q d x e h.falling) (r.aborting now q d x e h.room) (s.aborting now q d x e h.small);
      accepting = λ z d x e h. joined (c.accepting z d x e (chained h)) (a.accepting z d x e (aired h))
          (f.accepting z d x e h.falling) (r.accepting z d x e h.room) (s.accepting z d x e h.small);
      ticking = λ now until q le h. joined (c.ticking now until q le (chained h)) (a.ticking now until q le (aired h))
          (f.ticking now until q le h.falling) (r.ticking now until q le h.room) (s.ticking now until q le h.small);
    }

-- ## 02, CR 8: what ended lately

notable : (l : List Session) → All Proper l → All Small l → All (λ s. s.played.0 ≤ longest) l → All Notable l
notable [] a b c = tt
notable (s ∷ l) a b c = ((a.0.conn, omega (arith, b.0.id), b.0.event, omega (arith, c.0)), notable l a.1 b.1 c.1)

silent-notable : (l : List Session) → All Proper l → All Small l → All (λ s. s.played.0 ≡ 0) l → All Notable l
silent-notable l a b c = notable l a b (all-into (λ s. s.played.0 ≡ 0) (λ s. s.played.0 ≤ longest) (λ s e. omega arith) l c)

keeping-now : (now : ℕ) (q : Queue) → Holding now q → Recalled q.lately → Keeping q
keeping-now now q h r =
    record {
      held = record {
        waiting = silent-notable q.waiting h.proper.waiting h.small.waiting h.played.silent;
        started = notable q.started h.proper.started h.small.started (played-now now q h);
      };
      lately = r;
    }

-- at t, before its work, if nothing is due before
keeping-then : (now t : ℕ) (q : Queue) → now ≤ t → Due t q → Holding now q → Recalled q.lately → Keeping (elapse (t - now) q)
unfolding elapse
keeping-then now t q le d h r =
    let p = each-elapse Proper proper-plays (t - now) q h.proper in
    let s = each-elapse Small small-plays (t - now) q h.small in
    record {
      held = record {
        waiting = silent-notable q.waiting h.proper.waiting h.small.waiting h.played.silent;
        started = notable (elapse (t - now) q).started p.started s.started (played-then now t q le d h);
      };
      lately = r;
    }

run-recalls : (n now until : ℕ) (q : Queue) → Holding now q → Recalled q.lately → Recalled (run n now until q).queue.lately
unfolding run and_then elapse
run-recalls zero now until q h r = r
run-recalls (suc n) now until q h r =
    by_next (λ (t : Turn). Recalled t.queue.lately) _ _ (not_after until (due q))
    (λ t e. let d = due-first until t q e in
    let le = next-after now until t q e h in
    run-recalls n t.0 until (moved now t.0 q).queue (holding-next now until t q e h)
    (instant-recalls t.0 (elapse (t.0 - now) q) (keeping-then now t.0 q (omega arith) d h r)))
    (λ e. r)

-- ## Of a splicer

ticked-recalls : (now until : ℕ) (q : Queue) → Holding now q → Recalled q.lately → Recalled (run_all now until q).queue.lately
unfolding run_all
ticked-recalls now until q h r = run-recalls _ now until q h r

brings-early : (k : Call) (until : ℕ) → Wired k → Brings k until → until < horizon
brings-early k until w (tick seconds micros room m) = omega arith
brings-early k until w (move t room) = w

pub sound-kept : Kept Wired Sound
sound-kept =
    let l : Kept Wired Linking = linking-kept in
    let k = held_kept Holding holding-kept in
    record {
      opening = λ s c low e h. record {
        linking = l.opening s c low e h.linking;
        clock = h.clock;
        primary = h.primary;
        holding =
            h.holding;
        lately = h.lately;
      };
      naming = λ s c x n e h. record {
        linking = l.naming s c x n e h.linking;
        clock = h.clock;
        primary = h.primary;
        holding =
            h.holding;
        lately = h.lately;
      };
      closing = λ s c low e h. record {
        linking = l.closing s c low e h.linking;
        clock = h.clock;
        primary = h.primary;
        holding =
            k.closing s c low e h.holding;
        lately = (closed_by-keeps c s.queue
            (keeping-now s.clock s.queue h.holding h.lately)).lately;
      };
      aborting = λ s c x low e a h. record {
        linking = l.aborting s c x low e a h.linking;
        clock = h.clock;
        primary = h.primary;
        holding = k.aborting s c x low e a h.holding;
        lately =
            (aborted-keeps c x s.queue (keeping-now s.clock s.queue h.holding h.lately)).lately;
      };
      accepting = λ s c r a h. record {
        linking = l.accepting s c r a h.linking;
        clock = h.clock;
        primary = h.primary;
        holding =
            k.accepting s c r a h.holding;
        lately = accepted-recalls _ s.queue
            (keeping-now s.clock s.queue h.holding h.lately);
      };
      ticking = λ s j until f b le h. record {
        linking = l.ticking s j until f b le h.linking;
        clock = brings-early j until f b;
        primary = omega (arith, h.primary, silent_all-most s.clock until s.queue le h.holding.timed);
        holding = k.ticking s j until f b le h.holding;
        lately = ticked-recalls s.clock until s.queue h.holding h.lately;
      };
    }

pub sound-call : (s : Splicer) (k : Call) → Wired k → Sound s → Sound (call k s).splicer
sound-call s k f h = call_kept Wired Sound sound-kept s k f h

nothing-held : Holding 0 none_held
nothing-held =
    record {
      timed = record { sorted = tt; later = tt; ends = tt };
      played = record { silent = tt; since = tt };
      falling = tt;
      room = room-none;
      proper = record { waiting = tt; started = tt };
      small = record { waiting = tt; started = tt };
      once = λ c x. omega arith;
      tied = tt;
    }

pub sound-fresh : (name : List ℕ) → length name ≡ 32 → All Byte name → Sound (fresh name).splicer
unfolding fresh named
sound-fresh name e a =
    by (λ (k : Called). Linking k.splicer → Sound k.splicer) (has_zero name) _ _
    (λ z l. record { linking = l; clock = omega arith; primary = omega arith; holding = nothing-held; lately = recalled-none })
    (λ z l. record { linking = l; clock = omega arith; primary = omega arith; holding = nothing-held; lately = recalled-none })
    (linking-fresh name e a)

pub sound-always : (ks : List Call) (name : List ℕ) → length name ≡ 32 → All Byte name → All Wired ks
    → Sound (after ks (fresh name).splicer)
sound-always ks name e a f = always Wired Sound sound-kept ks (fresh name).splicer f (sound-fresh name e a)

-- no call writes more than 3,174 bytes
pub sound-size : (s : Splicer) → Sound s → (k : Call) → length (written_by (call k s).answer) ≤ 3174
sound-size s h k =
    call-size s (record {
      waiting = few-wait h.holding;
      started = few-started h.holding;
      name = omega (arith, h.linking.short);
      hardware = λ c. (structure-at c s.hardware h.linking.kept).short;
    }) k

-- what is said of its records is said of its bytes
pub sound-found : (s : Splicer) (k : Call) → Wired k → Sound s → records_in (written_by (call k s).answer) ≡ records_of (call k s).answer
sound-found s k f h =
    found k s f (record {
      aired = aired h.holding;
      proper = h.holding.proper;
      small = h.holding.small;
      clock = h.clock;
      linking =
          h.linking;
      lately = h.lately;
    })

-- ## A splicer that fresh and the calls since have given

pub after_last : (ks : List Call) (k : Call) (s : Splicer) → after (ks ++ (k ∷ [])) s ≡ (call k (after ks s)).splicer
unfolding after
after_last [] k s = refl
after_last (j ∷ ks) k s = after_last ks k (call j s).splicer

pub reached-fresh : (name : List ℕ) → length name ≡ 32 → All Byte name → Reached (fresh name).splicer
unfolding after
reached-fresh name e a = record { name = name; whole = e; bytes = a; calls = []; wired = tt; same = refl }

pub reached-call : (s : Splicer) (k : Call) → Wired k → Reached s → Reached (call k s).splicer
reached-call s k f r =
    record {
      name = r.name;
      whole = r.whole;
      bytes = r.bytes;
      calls = r.calls ++ (k ∷ []);
      wired = all_append Wired r.calls (k ∷ []) r.wired (f, tt);
      same = ap (λ y. (call k y).splicer) r.same ∙ sym (after_last r.calls k (fresh r.name).splicer);
    }

pub reached-sound : (s : Splicer) → Reached s → Sound s
reached-sound s r = rw r.same (sound-always r.calls r.name r.whole r.bytes r.wired)
