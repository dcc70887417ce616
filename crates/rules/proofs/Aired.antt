-- Time on air: none before the start, and never more than has passed since it; so it is never longer than the Duration.
-- Assumes nothing.
use mathlib.Core.Path.{◌≡◌, refl}
use mathlib.Core.List.{List, [], ◌∷◌}
use Prim.Native.Nat.{ℕ, suc, ◌-◌, ◌≤◌, ◌<◌}
use native.Mathlib.Omega.{arith}
use lib.Dec.{ltb}
use lib.ListN.{length, get_or}
use borrow.Author.Tests.{ltb-true, eqb-true}
use Rattle.rules.specs.declared.Session.{Session}
use Rattle.rules.specs.Lists.{place, remove_at}
use Rattle.rules.specs.State.{Queue, empty, starts_at, with_waiting}
use Rattle.rules.specs.Ends.{Turn, and_then, evicted, dismissed}
use Rattle.rules.specs.Instants.{may_start, ousted, launched, start_at, end_at, instant, on_air, elapse}
use Rattle.rules.specs.Splicing.{session_at, requested, accepted}
use Rattle.rules.specs.Calls.{Call}
use Rattle.rules.proofs.Tests.{by}
use Rattle.rules.proofs.All.{All, all-into}
use Rattle.rules.proofs.Count.{place-holds}
use Rattle.rules.proofs.Every.{all_get_d, all_inserted, fewer-remove_at, fewer-all, FewerHeld}
use Rattle.rules.proofs.Leaving.{failed-fewer, ousted-fewer, end_at-fewer, evicted-fewer, aborted-fewer, closed_by-fewer}
use Rattle.rules.proofs.Always.{KeptHeld}
use Rattle.rules.proofs.Tick.{Due, meets, elapse-due, tick-through}
use Rattle.rules.proofs.Timed.{OnTime, timed-fewer, instant-timed, elapse-timed, wait-timed, meets-after, accept-timed}
pub use Rattle.rules.specs.Follows.Sound.{Since, Played}

pub played-fewer : (now : ℕ) (q r : Queue) → FewerHeld q r → Played now q → Played now r
played-fewer now q r f h = record {
  silent = fewer-all (λ s. s.played.0 ≡ 0) f.waiting h.silent;
  since =
      fewer-all (Since now) f.started h.since;
}

-- what passes until t, the time of the next instant or of the tick
pub elapse-played : (now t : ℕ) (q : Queue) → now ≤ t → Played now q → Played t (elapse (t - now) q)
unfolding elapse on_air
elapse-played now t q le h = record { silent = h.silent; since = go q.started h.since }
  where
    go : (k : List Session) → All (Since now) k → All (Since t) (on_air (t - now) k)
    go [] a = tt
    go (s ∷ k) a = (omega (arith, a.0), all-into (Since now) (Since t) (λ u i. omega arith) k a.1)

pub instant-played : (t : ℕ) (q : Queue) → Played t q → Played t (instant t q).queue
unfolding instant and_then start_at launched dismissed
instant-played t q h =
    by (λ (r : Turn). Played t r.queue) (ltb i (length u.waiting)) _ _ (λ e. one (ltb-true i (length u.waiting) e)) (λ e. g)
  where
    u : Queue
    u = (end_at t q).queue

    g : Played t u
    g = played-fewer t q u (end_at-fewer q t) h

    i : ℕ
    i = place (starts_at t) u.waiting

    s : Session
    s = get_or u.waiting i empty

    v : Queue
    v = with_waiting (remove_at i u.waiting) u

    left : All (λ x. x.played.0 ≡ 0) (remove_at i u.waiting)
    left = fewer-all (λ x. x.played.0 ≡ 0) (fewer-remove_at i u.waiting) g.silent

    one : i < length u.waiting → Played t (launched s v).queue
    one l =
        let b = eqb-true t s.start.0 (place-holds (starts_at t) u.waiting empty l) in
        let a = all_get_d (λ x. x.played.0 ≡ 0) u.waiting i empty l g.silent in
        by (λ (r : Turn). Played t r.queue) (may_start s v.started) _ _
        (λ e. let k = played-fewer t v (ousted s v).queue (ousted-fewer s v) (record { silent = left; since = g.since }) in
        record { silent = k.silent; since = (omega arith, k.since) })
        (λ e. played-fewer t v _ (failed-fewer s v) (record { silent = left; since = g.since }))

pub record Aired (now : ℕ) (q : Queue) : Type 0 where
  pub timed : OnTime now q
  pub played : Played now q

accept-played : (now : ℕ) (s : Session) (q : Queue) → s.played.0 ≡ 0 → Played now q → Played now (accepted s q).queue
unfolding accepted and_then
accept-played now s q e h =
    let u = (evicted s.start.0 q).queue in
    let k = played-fewer now q u (evicted-fewer s.start.0 q) h in
    record { silent = all_inserted (λ x. x.played.0 ≡ 0) s u.waiting e k.silent; since = k.since }

pub moved-aired : (now t : ℕ) (q : Queue) → Due t q → 0 < meets t q → Aired now q → Aired t (instant t (elapse (t - now) q)).queue
moved-aired now t q d m h =
    let lt = meets-after now t q h.timed m in
    record {
      timed = instant-timed t now (elapse (t - now) q) (elapse-timed now (t - now) q h.timed) (elapse-due t (t - now) q d);
      played = instant-played t (elapse (t - now) q) (elapse-played now t q (omega arith) h.played);
    }

pub rest-aired : (now until : ℕ) (q : Queue) → now ≤ until → Due (suc until) q → Aired now q → Aired until (elapse (until - now) q)
rest-aired now until q le d h = record {
  timed = elapse-timed until (until - now) q (wait-timed now until q d h.timed);
  played =
      elapse-played now until q le h.played;
}

pub aired-kept : {F : Call → Type 0} → KeptHeld F Aired
unfolding requested session_at
aired-kept =
    record {
      closing = λ now q c h. fewer now q _ (closed_by-fewer c q) h;
      aborting = λ now q c x e h. fewer now q _ (aborted-fewer c x q) h;
      accepting = λ s c r a h. record {
        timed = accept-timed s c r a h.timed;
        played =
            accept-played s.clock (requested c r s.queue) s.queue refl h.played;
      };
      ticking = tick-through Aired rest-aired moved-aired;
    }
  where
    fewer : (now : ℕ) (q r : Queue) → FewerHeld q r → Aired now q → Aired now r
    fewer now q r f h = record { timed = timed-fewer now q r f h.timed; played = played-fewer now q r f h.played }
