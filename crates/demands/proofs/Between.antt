-- A tick put in before a later one changes nothing: the two together write the records that the later one alone would have written, and
-- leave the splicer that it would have left; also in ninths. Rests on rules' laws of a tick, an instant at a time. Assumes nothing.
use mathlib.Core.Path.{◌≡◌, refl, ap, sym, ◌∙◌}
use mathlib.Core.Bool.{Bool, true, false, cond}
use mathlib.Core.List.{List, [], ◌∷◌, ◌++◌, append_assoc}
use Prim.Native.Nat.{ℕ, zero, suc, ◌+◌, ◌-◌, ◌≤◌}
use native.Mathlib.Omega.{arith}
use lib.Dec.{ltb}
use borrow.Author.Tests.{ltb-true, ltb-false, le-ltb}
use Rattle.rules.specs.declared.Ninths.{Ninths}
use Rattle.rules.specs.declared.Session.{Session}
use Rattle.rules.specs.Units.{time_of, bad_micros, from_micros}
use Rattle.rules.specs.Records.{Record, output}
use Rattle.rules.specs.State.{Queue, Splicer, sooner, earliest, due, not_after, to_come, with_started}
use Rattle.rules.specs.Ends.{Turn, quiet, and_then}
use Rattle.rules.specs.Instants.{instant, on_air, elapse, run_all, silence, silent_all}
use Rattle.rules.specs.HouseNumbers.{Called, no_room, written_by, house_number}
use Rattle.rules.specs.Calls.{ticked, move_call, tick_call}
use Rattle.rules.proofs.Tests.{by}
use Rattle.rules.proofs.Tick.{not_after-at, due-time, due-none, moved, moved-less, run-stop, run_more, run_all-enough}
use Rattle.rules.proofs.Silence.{silent_all-stop, silent_all-more}
use Rattle.rules.proofs.Written.{output-append}
use Rattle.demands.specs.Told.{number_of}
use Rattle.std.specs.Prelude.{None, Option, Some}

-- ## Two stretches of time

on_air-twice : (a b : ℕ) (k : List Session) → on_air a (on_air b k) ≡ on_air (b + a) k
unfolding on_air
on_air-twice a b [] = refl
on_air-twice a b (s ∷ k) =
    let e : s.played.0 + b + a ≡ s.played.0 + (b + a) = omega arith in
    rw e

elapse-twice : (a b : ℕ) (q : Queue) → elapse a (elapse b q) ≡ elapse (b + a) q
unfolding elapse
elapse-twice a b q = ap (λ (k : List Session). with_started k q) (on_air-twice a b q.started)

-- time on air moves no start and no end
ends-on_air : (d : ℕ) (k : List Session) → earliest (λ s. s.end) (on_air d k) ≡ earliest (λ s. s.end) k
unfolding on_air
ends-on_air d [] = refl
ends-on_air d (s ∷ k) = refl

still-due : (d : ℕ) (q : Queue) → due (elapse d q) ≡ due q
unfolding due elapse
still-due d q = ap (λ (w : Option Ninths). sooner w (earliest (λ s. s.start) q.waiting)) (ends-on_air d q.started)

silence-twice : (a b d : ℕ) (k : List Session) → silence b k + silence a (on_air d k) ≡ silence (b + a) k
unfolding on_air
silence-twice a b d [] = refl
silence-twice a b d (s ∷ k) = refl

-- ## A tick, an instant at a time

then-assoc : (t : Turn) (f g : Queue → Turn) → and_then (and_then t f) g ≡ and_then t (λ q. and_then (f q) g)
unfolding and_then
then-assoc t f g =
    let u = f t.queue in
    ap (λ (rs : List Record). record { queue = (g u.queue).queue; written = rs })
    (append_assoc t.written u.written (g u.queue).written)

then_same : (t : Turn) (f g : Queue → Turn) → f t.queue ≡ g t.queue → and_then t f ≡ and_then t g
unfolding and_then
then_same t f g e = rw e

then-quiet : (q : Queue) (f : Queue → Turn) → and_then (quiet q) f ≡ f q
unfolding and_then
then-quiet q f = refl

module _ (now until : ℕ) (q : Queue) where
  run_all-stop : not_after until (due q) ≡ None → run_all now until q ≡ quiet (elapse (until - now) q)
  run_all-stop e = run_all-enough (to_come q) now until q (omega arith) ∙ run-stop (to_come q) now until q e

  run_all-more : (t : Ninths) → not_after until (due q) ≡ Some t → run_all now until q ≡ and_then (moved now t.0 q) (run_all t.0 until)
  run_all-more t e =
      let n = to_come q in
      let u = (moved now t.0 q).queue in
      let l = moved-less now until t q e in
      run_all-enough (suc n) now until q (omega arith) ∙ run_more n now until t q e
      ∙ then_same (moved now t.0 q) _ (run_all t.0 until) (sym (run_all-enough n t.0 until u (omega arith)))

-- ## To mid, and from there to until

never-at : (t : Ninths) → None ≡ Some t → ⊥
never-at t h = let z : ◌≡◌ {A = ℕ} 0 1 = cc in omega arith

module _ (mid until : ℕ) (le : mid ≤ until) where
  -- what is due by mid is due by until
  sooner-due : (a : Option Ninths) (t : Ninths) → not_after mid a ≡ Some t → not_after until a ≡ Some t
  sooner-due None t e = absurd (never-at t e)
  sooner-due (Some u) t e = go (ltb mid u.0) refl e
    where
      go : (b : Bool) → ltb mid u.0 ≡ b → cond b None (Some u) ≡ Some t → not_after until (Some u) ≡ Some t
      go true h f = absurd (never-at t f)
      go false h f = not_after-at until u (omega (arith, ltb-false mid u.0 h)) ∙ f

  -- what is not due by mid is due after it
  later-due : (a : Option Ninths) (t : Ninths) → not_after mid a ≡ None → not_after until a ≡ Some t → mid ≤ t.0
  later-due None t e f = absurd (never-at t f)
  later-due (Some u) t e f = go (ltb mid u.0) refl e (ltb until u.0) refl f
    where
      go : (b : Bool) → ltb mid u.0 ≡ b → cond b None (Some u) ≡ None → (c : Bool) → ltb until u.0 ≡ c → cond c None (Some u) ≡ Some t
          → mid ≤ t.0
      go true h e true k f = absurd (never-at t f)
      go true h e false k f = let i : u.0 ≡ t.0 = cc in omega (arith, ltb-true mid u.0 h)
      go false h e c k f = absurd (never-at u (sym e))

  module _ (now : ℕ) (q : Queue) (h : now ≤ mid) where
    abbrev u : Queue
    u = elapse (mid - now) q

    -- with nothing due by mid, what comes after it is as from now
    module _ (t : ℕ) (i : mid ≤ t) where
      onward : elapse (t - mid) u ≡ elapse (t - now) q
      onward =
          let e : (mid - now) + (t - mid) ≡ t - now = omega arith in
          elapse-twice (t - mid) (mid - now) q ∙ ap (λ (d : ℕ). elapse d q) e

      silence-onward : silence (mid - now) q.started + silence (t - mid) u.started ≡ silence (t - now) q.started
      unfolding elapse
      silence-onward =
          let e : (mid - now) + (t - mid) ≡ t - now = omega arith in
          silence-twice (t - mid) (mid - now) (mid - now) q.started ∙ ap (λ (d : ℕ). silence d q.started) e

    still : not_after until (due u) ≡ not_after until (due q)
    still = ap (not_after until) (still-due (mid - now) q)

    run-later : not_after mid (due q) ≡ None → run_all mid until u ≡ run_all now until q
    run-later e = go (not_after until (due q)) refl
      where
        go : (a : Option Ninths) → not_after until (due q) ≡ a → run_all mid until u ≡ run_all now until q
        go (Some t) f =
            run_all-more mid until u t (still ∙ f)
            ∙ ap (λ (x : Queue). and_then (instant t.0 x) (run_all t.0 until)) (onward t.0 (later-due (due q) t e f))
            ∙ sym (run_all-more now until q t f)
        go None f = run_all-stop mid until u (still ∙ f) ∙ ap quiet (onward until le) ∙ sym (run_all-stop now until q f)

    silent-later : not_after mid (due q) ≡ None → silence (mid - now) q.started + silent_all mid until u ≡ silent_all now until q
    silent-later e = go (not_after until (due q)) refl
      where
        go : (a : Option Ninths) → not_after until (due q) ≡ a → silence (mid - now) q.started + silent_all mid until u
            ≡ silent_all now until q
        go (Some t) f =
            let i = later-due (due q) t e f in
            let x = silent_all-more mid until u t (still ∙ f) in
            let y = silent_all-more now until q t f in
            let z = ap (λ (v : Queue). silent_all t.0 until (instant t.0 v).queue) (onward t.0 i) in
            omega (arith, x, y, z, silence-onward t.0 i)
        go None f =
            let x = silent_all-stop mid until u (still ∙ f) in
            let y = silent_all-stop now until q f in
            omega (arith, x, y, silence-onward until le)

  -- with nothing due by mid
  run_none : (now : ℕ) (q : Queue) → now ≤ mid → not_after mid (due q) ≡ None
      → and_then (run_all now mid q) (run_all mid until) ≡ run_all now until q
  run_none now q h e =
      ap (λ (t : Turn). and_then t (run_all mid until)) (run_all-stop now mid q e)
      ∙ then-quiet (elapse (mid - now) q) (run_all mid until) ∙ run-later now q h e

  silent-none : (now : ℕ) (q : Queue) → now ≤ mid → not_after mid (due q) ≡ None
      → silent_all now mid q + silent_all mid until (run_all now mid q).queue ≡ silent_all now until q
  silent-none now q h e =
      let x = silent_all-stop now mid q e in
      let y = ap (λ (t : Turn). silent_all mid until t.queue) (run_all-stop now mid q e) in
      omega (arith, x, y, silent-later now q h e)

  -- n: no fewer than the starts and ends to come
  run-two : (n now : ℕ) (q : Queue) → to_come q ≤ n → now ≤ mid → and_then (run_all now mid q) (run_all mid until) ≡ run_all now until q
  run-two zero now q few h = let e : not_after mid (due q) ≡ None = rw (due-none q few) in run_none now q h e
  run-two (suc n) now q few h = go (not_after mid (due q)) refl (λ t. run-two n t (moved now t q).queue)
    where
      go : (a : Option Ninths) → not_after mid (due q) ≡ a
          → ((t : ℕ) → to_come (moved now t q).queue ≤ n → t ≤ mid
          → and_then (run_all t mid (moved now t q).queue) (run_all mid until) ≡ run_all t until (moved now t q).queue)
          → and_then (run_all now mid q) (run_all mid until) ≡ run_all now until q
      go None e ih = run_none now q h e
      go (Some t) e ih =
          let x = moved now t.0 q in
          let l = moved-less now mid t q e in
          ap (λ (r : Turn). and_then r (run_all mid until)) (run_all-more now mid q t e)
          ∙ then-assoc x (run_all t.0 mid) (run_all mid until)
          ∙ then_same x (λ v. and_then (run_all t.0 mid v) (run_all mid until)) (run_all t.0 until)
          (ih t.0 (omega arith) (due-time mid t q e))
          ∙ sym (run_all-more now until q t (sooner-due (due q) t e))

  silent-two : (n now : ℕ) (q : Queue) → to_come q ≤ n → now ≤ mid
      → silent_all now mid q + silent_all mid until (run_all now mid q).queue ≡ silent_all now until q
  unfolding and_then
  silent-two zero now q few h = let e : not_after mid (due q) ≡ None = rw (due-none q few) in silent-none now q h e
  silent-two (suc n) now q few h = go (not_after mid (due q)) refl (λ t. silent-two n t (moved now t q).queue)
    where
      go : (a : Option Ninths) → not_after mid (due q) ≡ a
          → ((t : ℕ) → to_come (moved now t q).queue ≤ n → t ≤ mid
          → silent_all t mid (moved now t q).queue + silent_all mid until (run_all t mid (moved now t q).queue).queue
          ≡ silent_all t until (moved now t q).queue)
          → silent_all now mid q + silent_all mid until (run_all now mid q).queue ≡ silent_all now until q
      go None e ih = silent-none now q h e
      go (Some t) e ih =
          let l = moved-less now mid t q e in
          let x = silent_all-more now mid q t e in
          let y = ap (λ (r : Turn). silent_all mid until r.queue) (run_all-more now mid q t e) in
          let z = ih t.0 (omega arith) (due-time mid t q e) in
          let w = silent_all-more now until q t (sooner-due (due q) t e) in
          omega (arith, x, y, z, w)

-- ## Calls

-- brought to mid and then to until, the clock is as brought to until at once
module _ (s : Splicer) (mid until : ℕ) (h : s.clock ≤ mid) (le : mid ≤ until) where
  pub ticked-state : (ticked until (ticked mid s).splicer).splicer ≡ (ticked until s).splicer
  unfolding ticked and_then
  ticked-state =
      let q = s.queue in
      let n = s.clock in
      let r = run-two mid until le (to_come q) n q (omega arith) h in
      let d = silent-two mid until le (to_come q) n q (omega arith) h in
      let p : s.primary + silent_all n mid q + silent_all mid until (run_all n mid q).queue ≡ s.primary + silent_all n until q =
      omega (arith, d) in
      λ i. record { name = s.name; clock = until; primary = p i; links = s.links; hardware = s.hardware; queue = (r i).queue }

  pub ticked-bytes : written_by (ticked mid s).answer ++ written_by (ticked until (ticked mid s).splicer).answer
      ≡ written_by (ticked until s).answer
  unfolding ticked and_then written_by
  ticked-bytes =
      let q = s.queue in
      let n = s.clock in
      let r = run-two mid until le (to_come q) n q (omega arith) h in
      sym (output-append (run_all n mid q).written (run_all mid until (run_all n mid q).queue).written)
      ∙ ap (λ (t : Turn). output t.written) r

-- a call that brings the clock to until, or is refused: whether that is for its time alone depends on the splicer
pub record Brings (until : ℕ) (f : Splicer → Called) : Type 0 where
  pub made : (s : Splicer) → number_of (f s).answer ≡ 0 → (s.clock ≤ until) × (f s ≡ ticked until s)
  pub also : (s t : Splicer) → number_of (f t).answer ≡ 0 → s.clock ≤ until → f s ≡ ticked until s

-- a good one accepts nothing
pub brings-only : (until : ℕ) (f : Splicer → Called) (s : Splicer) → Brings until f → number_of (f s).answer ≡ 0 → (f s).accepted ≡ false
unfolding ticked
brings-only until f s b z = ap (λ (r : Called). r.accepted) (b.made s z).1

module _ (until room : ℕ) where
  move-made : (s : Splicer) → number_of (move_call until room s).answer ≡ 0
      → (no_room room ≡ false) × (s.clock ≤ until) × (move_call until room s ≡ ticked until s)
  unfolding move_call number_of house_number
  move-made s =
      by (λ (r : Called). number_of r.answer ≡ 0 → (no_room room ≡ false) × (s.clock ≤ until) × (r ≡ ticked until s)) (no_room room) _ _
      (λ e z. absurd (omega (arith, z)))
      (λ e. by (λ (r : Called). number_of r.answer ≡ 0 → (no_room room ≡ false) × (s.clock ≤ until) × (r ≡ ticked until s))
      (ltb until s.clock) _ _
      (λ f z. absurd (omega (arith, z))) (λ f z. (e, ltb-false until s.clock f, refl)))

  pub move-brings : Brings until (move_call until room)
  unfolding move_call
  move-brings =
      record {
        made = λ s z. ((move-made s z).1, (move-made s z).2);
        also = λ s t z i. rw ((move-made t z).0, le-ltb until s.clock i);
      }

module _ (seconds micros room : ℕ) where
  abbrev time : ℕ
  time = (from_micros (time_of seconds micros)).0

  tick-made : (s : Splicer) → number_of (tick_call seconds micros room s).answer ≡ 0
      → (no_room room ≡ false) × (bad_micros micros ≡ false) × (tick_call seconds micros room s ≡ move_call time room s)
  unfolding tick_call number_of house_number
  tick-made s =
      by (λ (r : Called). number_of r.answer ≡ 0 → (no_room room ≡ false) × (bad_micros micros ≡ false) × (r ≡ move_call time room s))
      (no_room room) _ _
      (λ e z. absurd (omega (arith, z)))
      (λ e. by (λ (r : Called). number_of r.answer ≡ 0 → (no_room room ≡ false) × (bad_micros micros ≡ false) × (r ≡ move_call time room s))
      (bad_micros micros) _ _
      (λ f z. absurd (omega (arith, z))) (λ f z. (e, f, refl)))

  pub tick-brings : Brings time (tick_call seconds micros room)
  unfolding tick_call
  tick-brings =
      record {
        made = λ s z. let t = tick-made s z in
            let m = (move-brings time room).made s (ap (λ (r : Called). number_of r.answer) (sym t.2) ∙ z) in
            (m.0, t.2 ∙ m.1);
        also = λ s v z i. let t = tick-made v z in
            let e : tick_call seconds micros room s ≡ move_call time room s = rw (t.0, t.1) in
            e ∙ (move-brings time room).also s v (ap (λ (r : Called). number_of r.answer) (sym t.2) ∙ z) i;
      }

-- ## "a good tick put in before a later one changes neither the bytes written by the two together nor the splicer after them"

-- f is put in before g, and is good
module _ (mid until : ℕ) (f g : Splicer → Called) (a : Brings mid f) (b : Brings until g) (s : Splicer)
    (z : number_of (f s).answer ≡ 0) where
  here : (s.clock ≤ mid) × (f s ≡ ticked mid s)
  here = a.made s z

  reached : (f s).splicer.clock ≡ mid
  unfolding ticked
  reached = ap (λ (r : Called). r.splicer.clock) here.1

  -- g is good behind it
  module _ (y : number_of (g (f s).splicer).answer ≡ 0) where
    then : ((f s).splicer.clock ≤ until) × (g (f s).splicer ≡ ticked until (f s).splicer)
    then = b.made (f s).splicer y

    order : mid ≤ until
    order = omega (arith, reached, then.0)

    alone : g s ≡ ticked until s
    alone = b.also s (f s).splicer y (omega (arith, here.0, order))

    pub alone-good : number_of (g s).answer ≡ 0
    unfolding ticked number_of
    alone-good = ap (λ (r : Called). number_of r.answer) alone

    pub together-state : (g (f s).splicer).splicer ≡ (g s).splicer
    together-state =
        ap (λ (r : Called). r.splicer) then.1 ∙ ap (λ (r : Called). (ticked until r.splicer).splicer) here.1
        ∙ ticked-state s mid until here.0 order ∙ sym (ap (λ (r : Called). r.splicer) alone)

    pub together-bytes : written_by (f s).answer ++ written_by (g (f s).splicer).answer ≡ written_by (g s).answer
    together-bytes =
        ap (λ (r : Called). written_by r.answer ++ written_by (g (f s).splicer).answer) here.1
        ∙ ap (λ (r : Called). written_by (ticked mid s).answer ++ written_by r.answer) then.1
        ∙ ap (λ (r : Called). written_by (ticked mid s).answer ++ written_by (ticked until r.splicer).answer) here.1
        ∙ ticked-bytes s mid until here.0 order ∙ sym (ap (λ (r : Called). written_by r.answer) alone)

  -- one that is good alone, and not earlier, is good behind it
  pub later-good : number_of (g s).answer ≡ 0 → mid ≤ until → number_of (g (f s).splicer).answer ≡ 0
  unfolding ticked number_of
  later-good y h = ap (λ (r : Called). number_of r.answer) (b.also (f s).splicer s y (omega (arith, reached)))
