-- Checks b to e over verdicts in lent words: what a scan finds decides each of them, and the first that applies is the result.
-- Rests on rules' laws of places, and on what the verdicts show of a queue that is held.
use mathlib.Core.Path.{◌≡◌, refl, sym, ap, ◌∙◌}
use mathlib.Core.Bool.{Bool, true, false, cond}
use mathlib.Core.List.{List}
use Prim.Native.Nat.{ℕ, ◌+◌, ◌<◌}
use native.Mathlib.Omega.{arith}
use lib.Dec.{ltb}
use lib.ListN.{length, get_or, get_or-eq_default}
use Rattle.std.specs.declared.option.Option.{Option}
use Rattle.std.specs.declared.option.Option.TheVariants.{Some, None}
use Rattle.std.specs.Option.{is_some}
use Rattle.rules.specs.declared.Ninths.{Ninths}
use Rattle.rules.specs.declared.Session.{Session}
use Rattle.rules.specs.declared.Start.{Start}
use Rattle.rules.specs.declared.Start.TheVariants.{Timed, Linked}
use Rattle.rules.specs.declared.Request.{Request}
use Rattle.rules.specs.Units.{from_ticks}
use Rattle.rules.specs.Lists.{some}
use Rattle.rules.specs.State.{Queue, empty, of}
use Rattle.rules.specs.Splicing as splicing
use Rattle.rules.specs.Splicing.{prior_of, session_at, too_late, sum_of}
use Rattle.rules.specs.Follows.Asked.{Within, Asked}
use Rattle.rules.specs.Units.{horizon}
use Rattle.rules.specs.Follows.Sound.{Each}
use Rattle.rules.proofs.Count.{some-place}
use Rattle.rules.proofs.Bounds.{never, start-early}
use Rattle.rules.proofs.Sound.{early}
use Rattle.recall_rules.specs.declared.Phase.{Phase}
use Rattle.recall_rules.specs.declared.Verdict.{Verdict}
use Rattle.recall_rules.specs.Verdicts.{is_waiting, none, standing, stands, which, session_of}
use Rattle.recall_rules.specs.Work.{start_of, requested, collides}
use Rattle.recall_rules.proofs.Found.{some-stands}
use Rattle.recall_rules.proofs.Answers.{requested-same}
use Rattle.recall_rows.specs.declared.Test.TheVariants.{Unranked}
use Rattle.recall_rows.specs.Scans.{session_test, place_in}
use Rattle.recall_rows.proofs.Scans.{found, missing}
use Rattle.recall_ends.specs.Does.{all}
use Rattle.recall_instants.specs.Moments.{Keeps}
use Rattle.recall_requests.specs.Admits.{Few}

-- ## What a scan finds

module _ (h : Phase → Bool) (p : Session → Bool) (m : List ℕ) {r : Option ℕ} (f : r ≡ place_in (all m) (which h p (all m))) where
  -- a row exactly where one stands so and passes
  pub found-is : is_some r ≡ some p (standing h (all m))
  found-is =
      ap is_some f ∙ there (ltb (which h p (all m)) (length (all m))) ∙ sym (some-place (stands h p) (all m)) ∙ some-stands h p (all m)
    where
      there : (b : Bool) → is_some (cond b (Some (which h p (all m))) None) ≡ b
      there true = refl
      there false = refl

  pub end-found : {i : ℕ} {v : Verdict} → r ≡ Some i → v ≡ get_or (all m) i none
      → v.session.end ≡ (session_of (all m) (which h p (all m))).end
  end-found g e = ap (λ (w : Verdict). w.session.end) e ∙ ap (λ (j : ℕ). (session_of (all m) j).end) (found (all m) f g).0

  -- behind the last row stands the empty session
  pub end_none : r ≡ None → ◌≡◌ {A = Ninths} (record { 0 = 0 }) (session_of (all m) (which h p (all m))).end
  unfolding empty
  end_none g = sym (ap (λ (w : Verdict). w.session.end) (get_or-eq_default (all m) none (missing (all m) f g)))

-- ## d

-- outranked is who is below the rank
pub collides-is : (new : Session) (m : List ℕ) {r : Option ℕ}
    → r ≡ place_in (all m) (which is_waiting (session_test (Unranked new.start.0 (new.access + new.overrides))) (all m))
    → is_some r ≡ collides new (all m)
unfolding collides
collides-is new m f = found-is is_waiting (session_test (Unranked new.start.0 (new.access + new.overrides))) m f

-- ## e

-- the verdicts show a queue in which no connection has more
pub few : {at : ℕ} (m : List ℕ) → Keeps at (all m) → Few m
few m k c = omega (arith, k.shows.waiting (of c), k.holding.room.each c)

-- ## The session that is asked for

pub session-is : (t : Ninths) (c : ℕ) (r : Request) {p : ℕ} {d : Ninths} → p ≡ prior_of r.start → d ≡ from_ticks r.duration
    → record {
      conn = c;
      id = r.id;
      prior = p;
      start = t;
      end = record { 0 = t.0 + d.0 };
      access = r.access;
      overrides = r.overrides;
      mux = r.mux;
      event = r.event;
      played = record { 0 = 0 };
    }
    ≡ session_at t.0 c r
unfolding session_at
session-is t c r e f = rw (e, f)

pub rank-fits : (t c : ℕ) (r : Request) {new : Session} → new ≡ session_at t c r → Asked r
    → new.access + new.overrides < 18446744073709551616
unfolding session_at
rank-fits t c r e a = omega (arith, ap (λ (s : Session). s.access) e, ap (λ (s : Session). s.overrides) e, a.access, a.overrides)

-- no start is so late that an end wraps
early-start : (c : ℕ) (f : Start) (q : Queue) → Within f → Each (λ s. s.end.0 < never) q → splicing.start_of c f q < never
unfolding splicing.start_of
early-start c (Timed t) q h a = omega arith
early-start c (Linked p) q h a = start-early c (Linked p) q (omega arith) a

pub start_fits : (clock c : ℕ) (r : Request) (l : List Verdict) → Asked r → Keeps clock l → clock < horizon → start_of c r.start l < never
unfolding requested splicing.requested session_at
start_fits clock c r l a k h =
    let q = k.queue in
    omega (
      arith,
      ap (λ (s : Session). s.start.0) (requested-same l q k.shows k.holding.once c r),
      early-start c r.start q a.start (early k.holding h),
    )
