-- Each call of this card is one of document 01's, or is refused and changes nothing. Rests on demands' call-clock, that open, close and
-- message leave the clock, so that it is 0 until the instant is given.
use Rattle.std.proofs.Common.{◌≡◌, ℕ, ◌<◌, ◌≤◌, Bool, true, false, cond, List, [], ◌∷◌, ◌++◌, length, sym, refl, ap, ◌∙◌}
use Rattle.std.proofs.Common.{ap₂, arith, ltb-false, le-ltb, leb-false}
use Rattle.rules.specs.declared.Refusal.TheVariants.{NoRoom, BadMicros, Counter}
use Rattle.rules.specs.Lists.{All}
use Rattle.rules.specs.Units.{time_of, bad_micros, from_micros}
use Rattle.rules.specs.Follows.Wires.{Byte}
use Rattle.rules.specs.State.{Splicer}
use Rattle.rules.specs.HouseNumbers.{no_room}
use Rattle.rules.specs.Calls.{ticked, move_call, Call, opens, closes, messages, ticks, moves, cues, call, after}
use Rattle.rules.specs.Follows.Sequences.{answers}
use Rattle.rules.specs.Follows.Sound.{Wired, Reached}
use Rattle.rules.specs.Units.{horizon}
use Rattle.rules.specs.Rolling.{Last, none, at, Rolling, rollover, over_step, moved_on, past_field, is_given, Course, refuses}
use Rattle.rules.specs.Follows.Sequences.{rolling_of}
use Rattle.rules.specs.Rolling.{brings, instant_course, step_course, reading_course, rolls, instant_call, reading_call}
use Rattle.rules.specs.Follows.Sequences.{rolling_fresh, Timeless}
use Rattle.rules.specs.Rolling.{RollingCall, known, instants, readings, roll}
use Rattle.rules.specs.Follows.Sequences.{rolled_after, as_move, as_calls, as_moves, roll_answers}
use Rattle.rules.specs.Follows.Sequences.{RollWired, RollReached}
use Rattle.rules.proofs.All.{all_append}
use Rattle.demands.specs.History.{Reply, refusal, wrote, reply_of, clock_replied}
use Rattle.demands.proofs.Once.{call-clock, fresh-clock}
use Rattle.rolling.specs.Ruled.{As, nothing, one}

-- ## Until the instant is given the clock is 0, and then a reading is kept that is four bytes

abbrev pub Steadily : Last → (clock : ℕ) → Type 0
Steadily none clock = clock ≡ 0
Steadily (at reading) clock = reading < rollover

abbrev pub Steady : Rolling → Type 0
Steady r = Steadily r.last r.splicer.clock

pub timeless-clock : (s : Splicer) (k : Call) → Timeless k → (call k s).splicer.clock ≡ s.clock
unfolding clock_replied
timeless-clock s k t = sym (call-clock s k) ∙ go k t (reply_of (call k s).answer)
  where
    go : (j : Call) → Timeless j → (a : Reply) → clock_replied j a s.clock ≡ s.clock
    go j u (refusal n) = refl
    go (opens c) u (wrote l) = refl
    go (closes c room) u (wrote l) = refl
    go (messages c m loans) u (wrote l) = refl
    go (ticks seconds micros room) u (wrote l) = absurd u
    go (moves until room) u (wrote l) = absurd u
    go (cues m pts seconds micros room) u (wrote l) = refl

steady-rolls : (c : Course) (reading : ℕ) (r : Rolling) → reading < rollover → Steady r → Steady (rolling_of (rolls c reading r))
unfolding rolls
steady-rolls (refuses n) reading r w h = h
steady-rolls (brings until) reading r w h = w

steady-known : (l : Last) (now then : ℕ) → then ≡ now → Steadily l now → Steadily l then
steady-known none now then e h = e ∙ h
steady-known (at reading) now then e h = h

pub steady_kept : (k : RollingCall) (r : Rolling) → RollWired k → Steady r → Steady (rolling_of (roll k r))
unfolding roll instant_call reading_call
steady_kept (known k) r w h = steady-known r.last r.splicer.clock _ (timeless-clock r.splicer k w.1) h
steady_kept (instants seconds micros reading room) r w h = steady-rolls _ reading r w.1 h
steady_kept (readings reading room) r w h = steady-rolls _ reading r w h

pub steady-after : (ks : List RollingCall) (r : Rolling) → All RollWired ks → Steady r → Steady (rolled_after ks r)
unfolding rolled_after
steady-after [] r w h = h
steady-after (k ∷ ks) r w h = steady-after ks (rolling_of (roll k r)) w.1 (steady_kept k r w.0 h)

pub steady-fresh : (name : List ℕ) → Steady (rolling_of (rolling_fresh name))
unfolding rolling_fresh
steady-fresh name = fresh-clock name

-- ## Where a call brings the clock, it is not back, and before the horizon

abbrev pub Ahead : Course → (clock room : ℕ) → Type 0
Ahead (refuses n) clock room = Unit {0}
Ahead (brings until) clock room = (no_room room ≡ false) × (clock ≤ until) × (until < horizon)

not-given : (l : Last) (clock : ℕ) → is_given l ≡ false → Steadily l clock → clock ≡ 0
not-given none clock e h = h
not-given (at reading) clock e h = let z : ◌≡◌ {A = ℕ} 0 1 = cc in absurd (omega arith)

pub instant-ahead : (seconds micros room clock : ℕ) (l : Last) → seconds < 4294967296 → Steadily l clock
    → Ahead (instant_course seconds micros room l) clock room
unfolding instant_course
instant-ahead seconds micros room clock l w h = go (no_room room) (bad_micros micros) (is_given l) refl refl refl
  where
    go : (a b d : Bool) → no_room room ≡ a → bad_micros micros ≡ b → is_given l ≡ d
        → Ahead (cond a (refuses NoRoom) (cond b (refuses BadMicros)
        (cond d (refuses Counter) (brings (from_micros (time_of seconds micros)).0)))) clock room
    go true b d x y z = tt
    go false true d x y z = tt
    go false false true x y z = tt
    go false false false x y z = (x, omega (arith, not-given l clock z h), omega (arith, ltb-false 999999 micros y))

pub reading-ahead : (clock reading room : ℕ) (l : Last) → Ahead (reading_course clock reading room l) clock room
unfolding reading_course step_course
reading-ahead clock reading room none = go (no_room room)
  where
    go : (a : Bool) → Ahead (cond a (refuses NoRoom) (refuses Counter)) clock room
    go true = tt
    go false = tt
reading-ahead clock reading room (at last) = go (no_room room) (over_step last reading) (past_field (moved_on clock last reading)) refl refl
  where
    go : (a b d : Bool) → no_room room ≡ a → past_field (moved_on clock last reading) ≡ d
        → Ahead (cond a (refuses NoRoom) (cond b (refuses Counter) (cond d (refuses Counter) (brings (moved_on clock last reading))))) clock
        room
    go true b d x y = tt
    go false true d x y = tt
    go false false true x y = tt
    go false false false x y = (x, omega arith, leb-false horizon (moved_on clock last reading) y)

pub step-ahead : (clock reading : ℕ) (l : Last) (until : ℕ) → step_course clock reading l ≡ brings until
    → (clock ≤ until) × (until < horizon)
unfolding reading_course
step-ahead clock reading l until e = go (reading-ahead clock reading 4096 l)
  where
    go : Ahead (reading_course clock reading 4096 l) clock 4096 → (clock ≤ until) × (until < horizon)
    go a = let x : Ahead (brings until) clock 4096 = rw e at a in (x.1, x.2)

-- ## One call

-- "tick 2, 3": neither applies
pub move_same : (until room : ℕ) (s : Splicer) → 4096 ≤ room → s.clock ≤ until → move_call until room s ≡ ticked until s
unfolding move_call
move_same until room s h i = rw (le-ltb room 4096 h, le-ltb until s.clock i)

as-course : (k : RollingCall) (c : Course) (reading room : ℕ) (r : Rolling) → roll k r ≡ rolls c reading r → as_calls k r ≡ as_move c room
    → Ahead c r.splicer.clock room → As k r
unfolding rolls call
as-course k (refuses n) reading room r e f a = nothing n f e
as-course k (brings until) reading room r e f a =
    one (moves until room) a.2 f (ap (λ y. y.called) e ∙ sym (move_same until room r.splicer (ltb-false room 4096 a.0) a.1))

pub as-ruled : (k : RollingCall) (r : Rolling) → RollWired k → Steady r → As k r
unfolding roll as_calls instant_call reading_call
as-ruled (known k) r w h = one k w.0 refl refl
as-ruled (instants seconds micros reading room) r w h =
    as-course _ (instant_course seconds micros room r.last) reading room r refl refl
    (instant-ahead seconds micros room r.splicer.clock r.last w.0 h)
as-ruled (readings reading room) r w h =
    as-course _ (reading_course r.splicer.clock reading room r.last) reading room r refl refl
    (reading-ahead r.splicer.clock reading room r.last)

-- ## All calls

pub record AsMoves (ks : List RollingCall) (r : Rolling) : Type 0 where
  pub wired : All Wired (as_moves ks r)
  pub splicer : (rolled_after ks r).splicer ≡ after (as_moves ks r) r.splicer
  pub heard : roll_answers ks r ≡ answers (as_moves ks r) r.splicer

pub all-as-ruled : (ks : List RollingCall) (r : Rolling) → All RollWired ks → Steady r → AsMoves ks r
unfolding rolled_after as_moves after answers roll_answers
all-as-ruled [] r w h = record { wired = tt; splicer = refl; heard = refl }
all-as-ruled (k ∷ ks) r w h = go (as-ruled k r w.0 h) (all-as-ruled ks (rolling_of (roll k r)) w.1 (steady_kept k r w.0 h))
  where
    go : As k r → AsMoves ks (rolling_of (roll k r)) → AsMoves (k ∷ ks) r
    go (nothing n f e) x =
        let s : (roll k r).called.splicer ≡ r.splicer = ap (λ y. y.called.splicer) e in
        record {
          wired = rw f x.wired;
          splicer = rw f (x.splicer ∙ ap (after (as_moves ks (rolling_of (roll k r)))) s);
          heard = rw f (x.heard ∙ ap (answers (as_moves ks (rolling_of (roll k r)))) s);
        }
    go (one j v f e) x =
        let s : (roll k r).called.splicer ≡ (call j r.splicer).splicer = ap (λ y. y.splicer) e in
        let a = as_moves ks (rolling_of (roll k r)) in
        record {
          wired = rw f (v, x.wired);
          splicer = rw f (x.splicer ∙ ap (after a) s);
          heard = rw f (ap₂ (λ y z. y ∷ z) (ap (λ y. y.answer) e) (x.heard ∙ ap (answers a) s));
        }

-- ## What this card's fresh and calls have given

pub reached-steady : (r : Rolling) → RollReached r → Steady r
reached-steady r x = rw x.same (steady-after x.calls _ x.wired (steady-fresh x.name))

-- is a splicer of document 01's fresh and calls
pub reached-known : (r : Rolling) → RollReached r → Reached r.splicer
unfolding rolling_fresh
reached-known r x =
    let f = rolling_of (rolling_fresh x.name) in
    let a = all-as-ruled x.calls f x.wired (steady-fresh x.name) in
    record {
      name = x.name;
      whole = x.whole;
      bytes = x.bytes;
      calls = as_moves x.calls f;
      wired = a.wired;
      same = ap (λ y. y.splicer) x.same ∙ a.splicer;
    }

pub reached-fresh : (name : List ℕ) → length name ≡ 32 → All Byte name → RollReached (rolling_of (rolling_fresh name))
unfolding rolled_after
reached-fresh name e a = record { name = name; whole = e; bytes = a; calls = []; wired = tt; same = refl }

after_last : (ks : List RollingCall) (k : RollingCall) (r : Rolling)
    → rolled_after (ks ++ (k ∷ [])) r ≡ rolling_of (roll k (rolled_after ks r))
unfolding rolled_after
after_last [] k r = refl
after_last (j ∷ ks) k r = after_last ks k (rolling_of (roll j r))

pub reached-roll : (r : Rolling) (k : RollingCall) → RollWired k → RollReached r → RollReached (rolling_of (roll k r))
reached-roll r k w x =
    record {
      name = x.name;
      whole = x.whole;
      bytes = x.bytes;
      calls = x.calls ++ (k ∷ []);
      wired = all_append RollWired x.calls (k ∷ []) x.wired (w, tt);
      same = ap (λ y. rolling_of (roll k y)) x.same ∙ sym (after_last x.calls k _);
    }
