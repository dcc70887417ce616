-- The loop of `run`: what is left of the tick, from where it got to. Rests on recall_rules' equality with the two ordered lists, from which
-- rules' laws of a tick tell that time goes on and that a time on air stays small.
use mathlib.Core.Path.{◌≡◌, refl, sym, ap, subst, ◌∙◌}
use mathlib.Core.Bool.{Bool, true, false}
use mathlib.Core.List.{List}
use Prim.Native.Nat.{ℕ, zero, suc, ◌-◌, ◌*◌, ◌/◌, ◌≤◌, ◌<◌}
use native.Mathlib.Omega.{arith}
use lib.Dec.{ltb}
use lib.ListN.{length}
use borrow.Author.Tests.{ltb-false, le-ltb}
use Rattle.rules.specs.declared.Ninths.{Ninths}
use Rattle.std.specs.declared.option.Option.TheVariants.{Some, None}
use Rattle.rules.specs.declared.Session.{Session}
use Rattle.rules.specs.Lists.{count}
use Rattle.rules.specs.State as state
use Rattle.rules.specs.State.{not_after}
use Rattle.rules.specs.Records.{Record, output}
use Rattle.rules.specs.Instants as instants
use Rattle.rules.specs.Follows.Sound.{Since}
use Rattle.rules.specs.Units.{horizon}
use Rattle.rules.specs.HouseNumbers.{no_room}
use Rattle.rules.proofs.All.{all-into}
use Rattle.rules.proofs.Every.{none-some}
use Rattle.rules.proofs.Count.{some-none}
use Rattle.rules.proofs.Tick.{due-time}
use Rattle.rules.proofs.Size.{tick-brief}
use Rattle.rules.proofs.Sound.{few-wait, few-started, next-after, holding-next}
use Rattle.recall_rules.specs.declared.Verdict.{Verdict}
use Rattle.recall_rows.specs.declared.Order.TheVariants.{Highest}
use Rattle.recall_rules.specs.Verdicts.{has_started, session_of}
use Rattle.recall_rows.specs.Rows.{width}
use Rattle.recall_rules.specs.Work.{Turn, quiet, and_then, higher, on_air, instant, elapse, due, run, run_all}
use Rattle.recall_rows.proofs.Best.{strict}
use Rattle.recall_rules.proofs.Ends.{fit}
use Rattle.recall_rules.proofs.Instants.{elapse-same, due-same, instant-same, fit-elapse, proper-elapse, run_all-same}
use Rattle.recall_ends.specs.Does.{all, Turns, Room, Does}
use Rattle.recall_ends.proofs.Laws.{length-all, tells_none}
use Rattle.recall_instants.specs.Moments.{Lasting, Keeps}
use Rattle.recall_rows.proofs.Best.{is-there}
use Rattle.recall_instants.proofs.Starts.{first-room, next-room, both-done}

-- ## A tick, an instant at a time

module _ (now until : ℕ) (l : List Verdict) where
  abbrev pub rests : Turn
  rests = quiet (elapse (until - now) l)

  pub run_none : run 0 now until l ≡ rests
  unfolding run
  run_none = refl

  pub run-stop : (n : ℕ) → not_after until (due l) ≡ None → run n now until l ≡ rests
  unfolding run
  run-stop zero e = refl
  run-stop (suc n) e = rw e

  pub run_more : (n : ℕ) (t : Ninths) → not_after until (due l) ≡ Some t
      → run (suc n) now until l ≡ and_then (instant t.0 (elapse (t.0 - now) l)) (run n t.0 until)
  unfolding run
  run_more n t e = rw e

-- ## What is held

module _ {at : ℕ} {l : List Verdict} (k : Keeps at l) where
  -- none was on air for longer than the time is
  pub lasting : (t : ℕ) → at ≤ t → t < horizon → Lasting (t - at) l
  lasting t h z j = omega (arith, short)
    where
      s : Session
      s = session_of l (on_air l)

      late : Session → Bool
      late u = ltb at u.played.0

      none : count late k.queue.started ≡ 0
      none =
          some-none late k.queue.started
          (none-some late k.queue.started
          (all-into (Since at) (λ u. late u ≡ false) (λ u i. le-ltb at u.played.0 (omega arith)) k.queue.started
          k.holding.played.since))

      short : s.played.0 ≤ at
      short = go (late s) refl
        where
          go : (b : Bool) → late s ≡ b → s.played.0 ≤ at
          go true e = absurd (omega (
            arith,
            none,
            k.shows.started late,
            is-there has_started higher (strict Highest) (λ u. true) l j late e,
          ))
          go false e = ltb-false at s.played.0 e

  -- the next instant is t
  module _ (until : ℕ) (t : Ninths) (d : not_after until (due l) ≡ Some t) where
    same : not_after until (state.due k.queue) ≡ Some t
    same = ap (not_after until) (sym (due-same l k.queue k.shows)) ∙ d

    pub next-time : t.0 ≤ until
    next-time = due-time until t k.queue same

    pub next-later : at < t.0
    next-later = next-after at until t k.queue same k.holding

    pub keeps-next : Keeps t.0 (instant t.0 (elapse (t.0 - at) l)).verdicts
    keeps-next =
        let q = k.queue in
        let h = k.holding in
        let n = t.0 - at in
        let a = instant-same t.0 (elapse n l) (instants.elapse n q) (elapse-same n l q k.shows h.falling) (fit-elapse n q (fit h))
        (proper-elapse n q h.proper.started) in
        record { queue = _; shows = a.shows; holding = holding-next at until t q same h }

-- ## The loop

-- of the whole work w on the buffer e: it is `at`, o is written up to n, and what is left is a run of `left` instants at most on the words
-- m
pub record Running (until : ℕ) (w : Turn) (e m : List ℕ) (at n : ℕ) (o : List ℕ) (left : ℕ) : Type 0 where
  pub keeps : Keeps at (all m)
  pub time : at ≤ until
  pub room : Room (run left at until) n m o
  pub rest : {k o' : List ℕ} {to : ℕ} → Does (run left at until) n m o to k o' → Turns e 0 w k to o'

pub running-first : {until at n : ℕ} {m e : List ℕ} → Keeps at (all m) → at ≤ until → Room (run_all at until) 0 m e → n ≡ length m / width
    → Running until (run_all at until (all m)) e m at 0 e (2 * n)
unfolding run_all
running-first {until} {at} {n} {m} {e} k h room f =
    record {
      keeps = k;
      time = h;
      room = omega (arith, room, ap (λ (t : Turn). length (output t.written)) is);
      rest = λ {k} {o'} {to} d. subst (λ (t : Turn). Turns e 0 t k to o') (sym is) d;
    }
  where
    is : run_all at until (all m) ≡ run (2 * n) at until (all m)
    is = ap (λ (j : ℕ). run j at until (all m)) (omega (arith, length-all m, f))

module _ {until : ℕ} {w : Turn} {e m : List ℕ} {at n : ℕ} {o : List ℕ} {left : ℕ} (v : Running until w e m at n o left) where
  -- nothing is left but the time
  pub running-last : {k : List ℕ} → run left at until (all m) ≡ rests at until (all m) → all k ≡ elapse (until - at) (all m)
      → Turns e 0 w k n o
  running-last {k} is f = v.rest (subst (λ (t : Turn). Turns o n t k n o) (sym is) (record { holds = f; tells = tells_none }))

  -- the next instant is t, and so much time has passed in m'
  module _ (left' : ℕ) (less : left ≡ suc left') (t : Ninths) (d : not_after until (due (all m)) ≡ Some t) (m' : List ℕ)
      (f : all m' ≡ elapse (t.0 - at) (all m)) where
    more : run left at until (all m) ≡ and_then (instant t.0 (all m')) (run left' t.0 until)
    more =
        ap (λ (j : ℕ). run j at until (all m)) less ∙ run_more at until (all m) left' t d
        ∙ ap (λ (l : List Verdict). and_then (instant t.0 l) (run left' t.0 until)) (sym f)

    pub instant-room : Room (instant t.0) n m' o
    instant-room = first-room (instant t.0 (all m')) (run left' t.0 until) more o n v.room

    pub running-next : {m'' o' : List ℕ} {to : ℕ} → Does (instant t.0) n m' o to m'' o' → length o' ≡ length o
        → Running until w e m'' t.0 to o' left'
    running-next {m''} {o'} {to} g z =
        record {
          keeps = subst (Keeps t.0) (sym (g.holds ∙ ap (λ (l : List Verdict). (instant t.0 l).verdicts) f))
              (keeps-next v.keeps until t d);
          time = next-time v.keeps until t d;
          room = next-room (instant t.0 (all m')) (run left' t.0 until) more o n v.room g z;
          rest = λ {k} {o'} {to} y. v.rest (both-done (instant t.0 (all m')) (run left' t.0 until) more o n v.room g y);
        }

-- ## Room

-- a buffer that no call refuses has room for a tick
pub tick-room : {at : ℕ} {l : List Verdict} (until : ℕ) (e : List ℕ) → Keeps at l → no_room (length e) ≡ false
    → length (output (run_all at until l).written) ≤ length e
tick-room {at} {l} until e k h =
    let q = k.queue in
    omega (
      arith,
      ap (λ (rs : List Record). length (output rs)) (run_all-same at until l q k.shows k.holding).written,
      tick-brief at until q,
      few-wait k.holding,
      few-started k.holding,
      ltb-false (length e) _ h,
    )
