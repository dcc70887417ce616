-- Each start and each end writes a record, so a tick writes nothing before the next start or end and at least one record from it on.
-- Rests on rules' laws of a tick (Tick).
use mathlib.Core.Path.{◌≡◌, refl, ap, subst, ◌∙◌}
use mathlib.Core.Bool.{Bool, true, false}
use mathlib.Core.List.{List, [], ◌∷◌, ◌++◌, map}
use Prim.Native.Nat.{ℕ, suc, ◌+◌, ◌-◌, ◌≤◌, ◌<◌}
use native.Mathlib.Omega.{arith}
use lib.Dec.{ltb}
use lib.ListN.{length, get_or, length-append, length-map}
use borrow.Author.Tests.{ltb-true, ltb-false, le-ltb}
use Rattle.rules.specs.declared.Ninths.{Ninths}
use Rattle.rules.specs.declared.Session.{Session}
use Rattle.rules.specs.declared.Ending.{Ending}
use Rattle.rules.specs.declared.Ending.TheVariants.{Complete}
use Rattle.rules.specs.Lists.{bit, put, keep, count, place, remove_at}
use Rattle.rules.specs.State.{Queue, Splicer, empty, starts_at, ends_at, sooner, earliest, due, not_after, to_come, with_waiting}
use Rattle.rules.specs.Records.{Record, output}
use Rattle.rules.specs.Follows.ReadBack.{records_in}
use Rattle.rules.specs.Ends.{Turn, and_then, ended, endings}
use Rattle.rules.specs.Instants.{may_start, began, ousted, launched, start_at, end_at, instant, on_air, elapse, run, run_all}
use Rattle.rules.specs.HouseNumbers.{Called, written_by}
use Rattle.rules.specs.Calls.{ticked, move_call, moves, call}
use Rattle.rules.specs.Follows.Sound.{Sound}
use Rattle.rules.specs.Units.{horizon}
use Rattle.rules.proofs.Tests.{tests, by}
use Rattle.rules.proofs.Count.{length-keep, place_none}
use Rattle.rules.proofs.Tick.{meets, due-meets, moved, elapse-meets, run-stop, run_more, run_all-enough}
use Rattle.rules.proofs.Fitted.{records_of}
use Rattle.rules.proofs.Sound.{sound-found}
use Rattle.std.specs.Prelude.{None, Option, Some}

-- ## Each start and each end writes a record

module _ (air cover : Ending) (p : Session → Bool) where
  put-length : (b : Bool) (x : Record) (l : List Record) → length (put b x l) ≡ bit b + length l
  put-length true x l = omega arith
  put-length false x l = omega arith

  -- as many records as end
  endings-length : (k : List Session) → length (endings air cover p k Record ended) ≡ count p k
  unfolding endings
  endings-length [] = refl
  endings-length (s ∷ k) =
      put-length (p s) (ended air s) (map (ended cover) (keep p k))
      ∙ ap (λ (n : ℕ). bit (p s) + n) (length-map (keep p k) (ended cover) ∙ length-keep p k)

-- a start is written, or that it failed
launched-writes : (s : Session) (q : Queue) → 0 < length (launched s q).written
unfolding launched and_then
launched-writes s q =
    by (λ (r : Turn). 0 < length r.written) (may_start s q.started) _ _
    (λ e. omega (arith, length-append (ousted s q).written (began s ∷ []))) (λ e. omega arith)

start_at-writes : (t : ℕ) (q : Queue) → 0 < count (starts_at t) q.waiting → 0 < length (start_at t q).written
unfolding start_at
start_at-writes t q h =
    let i = place (starts_at t) q.waiting in
    by (λ (r : Turn). 0 < length r.written) (ltb i (length q.waiting)) _ _
    (λ e. launched-writes (get_or q.waiting i empty) (with_waiting (remove_at i q.waiting) q))
    (λ e. absurd (omega (arith, place_none (starts_at t) q.waiting (ltb-false i (length q.waiting) e))))

instant-writes : (t : ℕ) (q : Queue) → 0 < meets t q → 0 < length (instant t q).written
unfolding instant and_then end_at
instant-writes t q h =
    let e = end_at t q in
    let s = start_at t e.queue in
    let n = endings-length (Complete 100) (Complete 125) (ends_at t) q.started in
    go (ltb 0 (count (starts_at t) q.waiting)) refl (length-append e.written s.written) n
  where
    go : (b : Bool) → ltb 0 (count (starts_at t) q.waiting) ≡ b
        → length ((end_at t q).written ++ (start_at t (end_at t q).queue).written)
        ≡ length (end_at t q).written + length (start_at t (end_at t q).queue).written
        → length (end_at t q).written ≡ count (ends_at t) q.started
        → 0 < length ((end_at t q).written ++ (start_at t (end_at t q).queue).written)
    go true e l n = omega (arith, start_at-writes t (end_at t q).queue (ltb-true 0 (count (starts_at t) q.waiting) e))
    go false e l n = omega (arith, tests)

-- ## A tick

module _ (now until : ℕ) (q : Queue) where
  -- nothing is due by then
  run-quiet : not_after until (due q) ≡ None → (run_all now until q).written ≡ []
  unfolding run_all
  run-quiet e = ap (λ (t : Turn). t.written) (run-stop (to_come q) now until q e)

  run-writes : (t : Ninths) → not_after until (due q) ≡ Some t → 0 < length (run_all now until q).written
  unfolding and_then
  run-writes t e =
      let i = moved now t.0 q in
      let n = to_come q in
      let same = run_all-enough (suc n) now until q (omega arith) ∙ run_more n now until t q e in
      let w = instant-writes t.0 (elapse (t.0 - now) q)
      (omega (arith, due-meets until t q e, elapse-meets t.0 (t.0 - now) q)) in
      omega (arith, ap (λ (r : Turn). length r.written) same, length-append i.written (run n t.0 until i.queue).written)

-- ## A call that brings the clock to a time

-- the records of the clock brought to until
module _ (until : ℕ) (s : Splicer) where
  pub ticked-quiet : not_after until (due s.queue) ≡ None → written_by (ticked until s).answer ≡ []
  unfolding ticked written_by output
  ticked-quiet e = ap output (run-quiet s.clock until s.queue e)

  pub ticked-writes : (t : Ninths) → not_after until (due s.queue) ≡ Some t → 0 < length (records_of (ticked until s).answer)
  unfolding ticked
  ticked-writes t e = run-writes s.clock until s.queue t e

-- its bytes give them back
pub ticked-found : (until : ℕ) (s : Splicer) → Sound s → s.clock ≤ until → until < horizon
    → records_in (written_by (ticked until s).answer) ≡ records_of (ticked until s).answer
unfolding call move_call
ticked-found until s h le early =
    let e : call (moves until 4096) s ≡ ticked until s = rw (le-ltb until s.clock le) in
    subst (λ (c : Called). records_in (written_by c.answer) ≡ records_of c.answer) e (sound-found s (moves until 4096) early h)

-- time on air changes no end, so what is due stays due
earliest-on_air : (d : ℕ) (k : List Session) → earliest (λ s. s.end) (on_air d k) ≡ earliest (λ s. s.end) k
unfolding on_air
earliest-on_air d [] = refl
earliest-on_air d (s ∷ k) = refl

due-elapse : (d : ℕ) (q : Queue) → due (elapse d q) ≡ due q
unfolding due elapse
due-elapse d q = ap (λ (w : Option Ninths). sooner w (earliest (λ s. s.start) q.waiting)) (earliest-on_air d q.started)

pub ticked-stays : (until : ℕ) (s : Splicer) → not_after until (due s.queue) ≡ None
    → due (ticked until s).splicer.queue ≡ due s.queue
unfolding ticked run_all
ticked-stays until s e =
    ap (λ (t : Turn). due t.queue) (run-stop (to_come s.queue) s.clock until s.queue e)
    ∙ due-elapse (until - s.clock) s.queue

pub clock-ticked : (until : ℕ) (s : Splicer) → (ticked until s).splicer.clock ≡ until
unfolding ticked
clock-ticked until s = refl
