-- The loop of `run`: what was done so far, and the rest of the tick from there.
-- Rests on rules' laws of a tick (`run_all-enough`, `silent_all-more`: no tick is cut short, so the rest of one is a tick too) and of all
-- that is held.
use mathlib.Core.Path.{◌≡◌, refl, sym, ap, subst, ◌∙◌}
use mathlib.Core.List.{List, [], ◌++◌, append_assoc, append-nil}
use Prim.Native.Nat.{ℕ, suc, ◌+◌, ◌-◌, ◌≤◌, ◌<◌}
use native.Mathlib.Omega.{arith}
use lib.ListN.{length}
use Rattle.rules.specs.declared.Ninths.{Ninths}
use Rattle.std.specs.Prelude.{Some, None}
use Rattle.rules.specs.Lists.{All}
use Rattle.rules.specs.State.{Queue, due, not_after, to_come}
use Rattle.rules.specs.Records.{Record, output}
use Rattle.rules.specs.Ends.{Turn, quiet, and_then, writes}
use Rattle.rules.specs.Instants.{instant, elapse, run_all, silence, silent_all}
use Rattle.rules.specs.Follows.Sound.{Since, Holding}
use Rattle.rules.specs.Units.{horizon}
use Rattle.rules.proofs.All.{all-into}
use Rattle.rules.proofs.Bounds.{longest}
use Rattle.rules.proofs.Tick.{moved, moved-less, due-first, due-time, elapse-to_come, run-stop, run_more, run_all-enough}
use Rattle.rules.proofs.Silence.{silent_all-stop, silent_all-more, silence-most}
use Rattle.rules.proofs.Size.{instant-brief}
use Rattle.rules.proofs.Sound.{few-started, next-after, holding-next, played-then}
use Rattle.rules.proofs.Written.{length-written}
use Rattle.memory.specs.Memory.{Memory, Form, see, queued, silenced, Now}
use Rattle.memory.proofs.Laws.{silenced-then, silenced-none}
use Rattle.ends.specs.Does.{Playable, room_for, Tells, Turns}
use Rattle.ends.proofs.Laws.{tells_none, tells-then}
use Rattle.ends.proofs.Followers.{ordered-now}
use Rattle.instants.specs.Runs.{Meets, Placed, Lasts, Lasting, passed, Ticked}

-- ## A tick, an instant at a time

-- the records rs, and then the turn
abbrev behind : List Record → Turn → Turn
behind rs t = writes (rs ++ t.written) t.queue

behind-then : (rs ss : List Record) (t : Turn) → behind rs (behind ss t) ≡ behind (rs ++ ss) t
behind-then rs ss t = ap (λ l. writes l t.queue) (sym (append_assoc rs ss t.written))

module _ (now until : ℕ) (q : Queue) where
  runs-stop : not_after until (due q) ≡ None → run_all now until q ≡ quiet (elapse (until - now) q)
  unfolding run_all
  runs-stop e = run-stop (to_come q) now until q e

  -- the next instant is t
  module _ {t : Ninths} (d : not_after until (due q) ≡ Some t) where
    less : to_come (moved now t.0 q).queue < to_come q
    less = moved-less now until t q d

    runs-more : run_all now until q ≡ behind (moved now t.0 q).written (run_all t.0 until (moved now t.0 q).queue)
    unfolding and_then
    runs-more =
        let i = moved now t.0 q in
        let n = to_come q in
        run_all-enough (suc n) now until q (omega arith) ∙ run_more n now until t q d
        ∙ ap (behind i.written) (sym (run_all-enough n t.0 until i.queue (omega (arith, less))))

    -- what it writes and leaves to come needs no more room than what was to come
    brief : length (output (moved now t.0 q).written) + room_for (to_come (moved now t.0 q).queue) ≤ room_for (to_come q)
    brief = let u = elapse (t.0 - now) q in omega (arith, instant-brief t.0 u, elapse-to_come t.0 (t.0 - now) q)

    module _ (h : Holding now q) where
      after : now < t.0
      after = next-after now until t q d h

      held : Holding t.0 (moved now t.0 q).queue
      held = holding-next now until t q d h

      meeting : Meets t.0 (elapse (t.0 - now) q)
      unfolding elapse
      meeting = record { ordered = ordered-now now q h; starts = (due-first until t q d).starts }

      playable : All Playable (elapse (t.0 - now) q).started
      playable =
          all-into (λ s. s.played.0 ≤ longest) Playable (λ s i. omega arith) (elapse (t.0 - now) q).started
          (played-then now t.0 q (omega (arith, after)) (due-first until t q d) h)

-- ## The loop

-- from words that showed s₀ and the buffer e: it is `at`, the words m show what is left, and o is written up to n
pub record Running (until : ℕ) (s₀ : Memory) (e m : List ℕ) (n at : ℕ) (o : List ℕ) : Type 0 where
  pub form : Form m
  pub silent : ℕ
  pub kept : see m ≡ queued (see m).queue (silenced silent s₀)
  pub early : (see m).primary ≤ at
  pub holding : Holding at (see m).queue
  pub time : at ≤ until
  pub room : n + room_for (to_come (see m).queue) ≤ length e
  pub long : length o ≡ length e
  pub sofar : List Record
  pub tells : Tells e 0 sofar n o
  pub rest : run_all s₀.clock until s₀.queue ≡ behind sofar (run_all at until (see m).queue)
  pub silence : silent_all s₀.clock until s₀.queue ≡ silent + silent_all at until (see m).queue

-- what `run` asks
abbrev Asks : ℕ → List ℕ → List ℕ → Type 0
Asks until m e =
    let s = see m in
    Form m
    × (Holding s.clock s.queue
    × (((s.clock ≤ until) × (until < horizon)) × ((s.primary ≤ s.clock) × (room_for (to_come s.queue) ≤ length e))))

pub first-turn : {until at : ℕ} {m : List ℕ} (e : List ℕ) → at ≡ (see m).clock → Asks until m e → Running until (see m) e m 0 at e
first-turn {until} {at} {m} e i (f, (h, ((le, _), (early, room)))) =
    record {
      form = f;
      silent = 0;
      kept = sym (silenced-none (see m));
      early = omega arith;
      holding = subst (λ (t : ℕ). Holding t (see m).queue) (sym i) h;
      time = omega arith;
      room = omega arith;
      long = refl;
      sofar = [];
      tells = tells_none;
      rest = ap (λ (t : ℕ). run_all t until (see m).queue) (sym i);
      silence = omega (arith, ap (λ (t : ℕ). silent_all t until (see m).queue) (sym i));
    }

module _ {until : ℕ} {s₀ : Memory} {e m : List ℕ} {n at : ℕ} {o : List ℕ} (v : Running until s₀ e m n at o) where
  pub turn-lasting : (t : ℕ) → at ≤ t → t < horizon → Lasting (t - at) (see m).queue.started
  turn-lasting t le h = all-into (Since at) (Lasts (t - at)) (λ s i. omega arith) (see m).queue.started v.holding.played.since

  pub turn-silent : (t : ℕ) → at ≤ t → t < horizon → (see m).primary + (t - at) < 18446744073709551616
  turn-silent t le h = omega (arith, v.early)

  -- what `elapse` asks, at the time t
  pub turn-asks : (t : ℕ) → at ≤ t → t < horizon → Form m × (Lasting (t - at) (see m).queue.started ×
      ((see m).primary + (t - at) < 18446744073709551616))
  turn-asks t le h = (v.form, (turn-lasting t le h, turn-silent t le h))

  -- so much more is the primary channel's
  abbrev more : ℕ → ℕ
  more t = silence (t - at) (see m).queue.started

  -- `elapse` left m' at the time t
  then-kept : (t : ℕ) (q : Queue) → queued q (passed (t - at) (see m)) ≡ queued q (silenced (v.silent + more t) s₀)
  then-kept t q = ap (λ (z : Memory). silenced (more t) (queued q z)) v.kept ∙ silenced-then v.silent (more t) (queued q s₀)

  -- nothing is due any more, and `elapse` left m'
  pub last_turn : {m' : List ℕ} → not_after until (due (see m).queue) ≡ None →
      Now m' (passed (until - at) (see m)) → Ticked until s₀ e n m' o
  last_turn {m'} d f =
      let q = elapse (until - at) (see m).queue in
      let stop = ap (behind v.sofar) (runs-stop at until (see m).queue d) ∙ ap (λ l. writes l q) (append-nil v.sofar) in
      let more = v.silence ∙ ap (λ (d : ℕ). v.silent + d) (silent_all-stop at until (see m).queue d) in
      subst (λ (t : Turn). Turns e 0 t (silenced (silent_all s₀.clock until s₀.queue) s₀) m' n o) (sym (v.rest ∙ stop))
      (record {
        shows = record { form = f.form; is = f.is ∙ then-kept until q ∙ ap (λ (d : ℕ). queued q (silenced d s₀)) (sym more) };
        tells = v.tells;
      })

  -- the next instant is t
  module _ {t : Ninths} (d : not_after until (due (see m).queue) ≡ Some t) where
    pub turn-time : t.0 ≤ until
    turn-time = due-time until t (see m).queue d

    pub turn-after : at < t.0
    turn-after = after at until (see m).queue d v.holding

    -- `elapse` left m'
    module _ {m' : List ℕ} (f : Now m' (passed (t.0 - at) (see m))) where
      then : (see m').queue ≡ elapse (t.0 - at) (see m).queue
      then = ap (λ (z : Memory). z.queue) f.is

      pub turn-meets : Meets t.0 (see m').queue
      turn-meets = subst (Meets t.0) (sym then) (meeting at until (see m).queue d v.holding)

      pub turn-placed : Placed (instant t.0 (see m').queue)
      turn-placed = subst (λ (y : Queue). Placed (instant t.0 y)) (sym then) (few-started (held at until (see m).queue d v.holding))

      pub turn-playable : All Playable (see m').queue.started
      turn-playable = subst (λ (y : Queue). All Playable y.started) (sym then) (playable at until (see m).queue d v.holding)

      pub turn-room : n + room_for (to_come (see m').queue) ≤ length o
      turn-room = omega (arith, v.room, v.long, ap to_come then, elapse-to_come t.0 (t.0 - at) (see m).queue)

      -- and the instant m''
      module _ {m'' : List ℕ} {to : ℕ} {o' : List ℕ} (g : Turns o n (instant t.0 (see m').queue) (see m') m'' to o') where
        given : Turns o n (moved at t.0 (see m).queue) (see m') m'' to o'
        given = subst (λ (y : Queue). Turns o n (instant t.0 y) (see m') m'' to o') then g

        left : (see m'').queue ≡ (moved at t.0 (see m).queue).queue
        left = ap (λ (z : Memory). z.queue) given.shows.is

        pub turn-less : to_come (see m'').queue < to_come (see m').queue
        turn-less =
            let q = (see m).queue in
            omega (arith, ap to_come left, ap to_come then, elapse-to_come t.0 (t.0 - at) q, less at until q d)

        pub turn-next : Running until s₀ e m'' to t.0 o'
        turn-next =
            let q = (see m).queue in
            let i = moved at t.0 q in
            let b = brief at until q d in
            record {
              form = given.shows.form;
              silent = v.silent + more t.0;
              kept =
                  given.shows.is ∙ ap (queued i.queue) f.is ∙ then-kept t.0 i.queue
                  ∙ ap (λ (y : Queue). queued y (silenced (v.silent + more t.0) s₀)) (sym left);
              early = omega (
                arith,
                v.early,
                turn-after,
                silence-most (t.0 - at) q.started,
                ap (λ (z : Memory). z.primary) given.shows.is,
                ap (λ (z : Memory). z.primary) f.is,
              );
              holding = subst (Holding t.0) (sym left) (held at until q d v.holding);
              time = turn-time;
              room = omega (arith, v.room, given.tells.count, b, ap to_come left);
              long =
                  ap length given.tells.bytes ∙ length-written o n (output i.written) (omega (arith, v.room, v.long, b))
                  ∙ v.long;
              sofar = v.sofar ++ i.written;
              tells = tells-then (omega (arith, v.room, v.tells.count)) v.tells given.tells;
              rest =
                  v.rest ∙ ap (behind v.sofar) (runs-more at until q d)
                  ∙ behind-then v.sofar i.written (run_all t.0 until i.queue)
                  ∙ ap (λ (y : Queue). behind (v.sofar ++ i.written) (run_all t.0 until y)) (sym left);
              silence = omega (arith, v.silence, silent_all-more at until q t d, ap (silent_all t.0 until) left);
            }

-- the next instant t has come: m are left by `elapse` of the words there were at `at`
pub record Arrived (until : ℕ) (s₀ : Memory) (e m : List ℕ) (n : ℕ) (t : Ninths) (o : List ℕ) : Type 0 where
  pub at : ℕ
  pub words : List ℕ
  pub running : Running until s₀ e words n at o
  pub next : not_after until (due (see words).queue) ≡ Some t
  pub then : Now m (passed (t.0 - at) (see words))

-- the loop's invariant. The loop begins when the first instant t₀ has come, in words m₀, and cannot name those before: from some of them
-- t has come, and from each from which t₀ came
pub record Onward (until : ℕ) (m₀ : List ℕ) (t₀ : Ninths) (e m : List ℕ) (n : ℕ) (t : Ninths) (o : List ℕ) : Type 0 where
  pub whence : Memory
  pub come : Arrived until whence e m n t o
  pub each : (s : Memory) → Arrived until s e m₀ 0 t₀ e → Arrived until s e m n t o

module _ {until : ℕ} {s₀ : Memory} {e m : List ℕ} {n at : ℕ} {t : Ninths} {o m' : List ℕ} (v : Running until s₀ e m n at o)
    (d : not_after until (due (see m).queue) ≡ Some t) (f : Now m' (passed (t.0 - at) (see m))) where
  pub arrived : Arrived until s₀ e m' n t o
  arrived = record { at = at; words = m; running = v; next = d; then = f }

module _ {until : ℕ} {s₀ : Memory} {e m : List ℕ} {n : ℕ} {t : Ninths} {o : List ℕ} (a : Arrived until s₀ e m n t o) where
  -- the instant left m', and the next, u, has come in m''
  module _ {m' : List ℕ} {to : ℕ} {o' : List ℕ} (g : Turns o n (instant t.0 (see m).queue) (see m) m' to o') where
    pub arrived-on : Running until s₀ e m' to t.0 o'
    arrived-on = turn-next a.running a.next a.then g

    module _ {u : Ninths} {m'' : List ℕ} (d : not_after until (due (see m').queue) ≡ Some u)
        (f : Now m'' (passed (u.0 - t.0) (see m'))) where
      pub arrived-next : Arrived until s₀ e m'' to u o'
      arrived-next = arrived arrived-on d f

      pub arrived-less : to_come (see m'').queue < to_come (see m).queue
      arrived-less =
          let q = (see m').queue in
          let then = ap (λ (z : Memory). to_come z.queue) f.is in
          omega (arith, then, elapse-to_come u.0 (u.0 - t.0) q, turn-less a.running a.next a.then g)
