-- A trace of this card is a trace of the engine's calls, with the same memory and buffers: a good instant or reading is the clock brought
-- to
-- an instant, a refused one changes nothing. Rests on the door's promises and on rolling's laws of courses.
use mathlib.Core.Path.{◌≡◌, refl, sym, ap, ap₂, subst, ◌∙◌}
use mathlib.Core.Bool.{cond}
use mathlib.Core.List.{List, [], ◌∷◌, ◌++◌, append_assoc}
use Prim.Native.Nat.{ℕ, ◌<◌}
use native.Mathlib.Omega.{arith}
use lib.Dec.{eqb}
use lib.ListN.{length, get_or}
use borrow.Author.Tests.{ne_eqb, ltb-false}
use Rattle.rules.specs.Lists.{All}
use Rattle.rules.specs.HouseNumbers.{Called, house_number}
use Rattle.rules.specs.Calls.{fresh, ticked, move_call, Call, call}
use Rattle.rules.specs.Follows.Sound.{Wired}
use Rattle.rules.specs.Rolling.{none, Rolling, Rolled, Course, refuses, brings, instant_course, reading_course, rolls, instant_call}
use Rattle.rules.specs.Follows.Sequences.{rolling_of}
use Rattle.rules.specs.Rolling.{reading_call, RollingCall, known, roll}
use Rattle.rules.specs.Follows.Sequences.{rolling_fresh, rolled_after, as_move, as_calls}
use Rattle.rules.specs.Follows.Sequences.{as_moves, RollWired, RollReached, Timeless}
use Rattle.rules.proofs.All.{at_all}
use Rattle.demands.proofs.Refusals.{a-number}
use Rattle.memory.specs.Memory.{see}
use Rattle.engine.specs.Lent.{Answer}
use Rattle.std.specs.Prelude.{Err}
use Rattle.engine.specs.Lent.{answer_of, Answers}
use Rattle.rolling.specs.LentRolling.{counter_of, last_of, rolling, Rolls}
use Rattle.rolling.proofs.Ruled.{Ahead, move_same, instant-ahead, reading-ahead, reached-roll}
use Rattle.rolling.proofs.Calls.{lent-steady, last-read}
use Rattle.rolling.proofs.Laws.{refused-unchanged}
use Rattle.door.specs.Door.{reply_of, Replies, Input, call_of}
use Rattle.door_rolling.specs.RollDoor.{RollReplies, RollInput, a_known, an_instant, a_reading, RollTyped, roll_call_of, roll_buffer_of}
use Rattle.door_rolling.specs.RollDoor.{RollSeen}
use Rattle.demands_engine.specs.Trace as engine
use Rattle.demands_engine.proofs.Device as any
use Rattle.demands_engine.proofs.Steps.{wired, memory-same}
use Rattle.demands_door.specs.Driven.{handed, inside, answer_in, number_in, moved_in}
use Rattle.demands_door.proofs.Inside.{number-told, moved_told, told, call-handed, typed-handed, allowed-inside, reply-back}
use Rattle.demands_rolling.specs.Rolled.{Memory, shown, LentAt, left, device, Made, AllowedAt, Leads, Trace, More, seen_of}
use Rattle.demands_rolling.specs.Rolled.{number, calls, time_made, as_made, within}

-- ## One call, as this card's rules have it

-- the types say what the rules ask of a call
pub roll-wired : (i : RollInput) → RollTyped i → RollWired (roll_call_of i)
roll-wired (a_known i) t = (rw (call-handed i) (wired (handed i) (typed-handed i t.0)), t.1)
roll-wired (an_instant g e) t =
    let low = at_all (λ x. x < 4294967296) 0 g (omega arith) t.1 in
    (low 0, low 2)
roll-wired (a_reading x e) t = t

-- the promise of every call, as one; of a known call the counter's words stay, so what it leaves is lent too
abbrev pub Promised : Memory → RollInput → RollSeen → Type 0
Promised m i r =
    Rolls (roll (roll_call_of i) (shown m)) (see m.core.words).ring_end (roll_buffer_of i) (answer_in r.reply) r.words r.bytes
    r.counter r.buffer

-- what the door promises of the reply
rolls-told : (m : Memory) (i : RollInput) (r : RollSeen)
    → RollReplies (roll (roll_call_of i) (shown m)) (see m.core.words).ring_end (roll_buffer_of i) r.reply r.words r.bytes
    r.counter r.buffer
    → Promised m i r
rolls-told m i r x =
    let p : Replies _ _ _ _ _ _ _ = record { answer = x.answer; answers = x.rolls.answers; reply = x.reply } in
    record { lent = x.rolls.lent; answers = told p; counter = x.rolls.counter }

known-told : (m : Memory) (j : Call) (e : List ℕ) (r : RollSeen) (a : Answer) → LentAt m → Wired j × Timeless j
    → Answers (call j (shown m).splicer) (see m.core.words).ring_end e a r.words r.bytes r.buffer → r.counter ≡ m.counter
    → Rolls (roll (known j) (shown m)) (see m.core.words).ring_end e a r.words r.bytes r.counter r.buffer
unfolding roll
known-told m j e r a l w p f =
    let is : shown (left r) ≡ rolling_of (roll (known j) (shown m)) = λ n. record { splicer = p.splicer n; last = last_of (f n) } in
    record {
      lent = record {
        whole = p.lent.whole;
        counter = rw f l.counter;
        reached = subst (λ (y : Rolling). RollReached y) (sym is) (reached-roll (shown m) (known j) w l.reached);
      };
      answers = p;
      counter = f ∙ l.counter;
    }

pub promised : (m : Memory) (i : RollInput) (r : RollSeen) → LentAt m → RollTyped i → AllowedAt m i r → Promised m i r
promised m (a_known i) r l t a =
    known-told m (call_of i) _ r (answer_in r.reply) l (roll-wired (a_known i) t) (told a.0) a.1
promised m (an_instant g e) r l t a = rolls-told m (an_instant g e) r a
promised m (a_reading x e) r l t a = rolls-told m (a_reading x e) r a

-- the door's promise, whatever the call
pub replies-of : (m : Memory) (i : RollInput) (r : RollSeen) → AllowedAt m i r
    → Replies (roll (roll_call_of i) (shown m)).called (see m.core.words).ring_end (roll_buffer_of i) r.reply r.words r.bytes
    r.buffer
unfolding roll
replies-of m (a_known i) r a = a.0
replies-of m (an_instant g e) r a = record { answer = a.answer; answers = a.rolls.answers; reply = a.reply }
replies-of m (a_reading x e) r a = record { answer = a.answer; answers = a.rolls.answers; reply = a.reply }

-- the state after it
pub state-is : (m : Memory) (i : RollInput) (r : RollSeen) → Promised m i r → shown (left r) ≡ rolling_of (roll (roll_call_of i) (shown m))
state-is m i r p =
    let d = ap last_of p.counter ∙ last-read (roll (roll_call_of i) (shown m)).last in
    λ n. record { splicer = p.answers.splicer n; last = d n }

-- ## The reply's words

-- what C reads of the reply determines it
reply-read : {c : Rolled} {ring : ℕ} {e r m b k o : List ℕ} → RollReplies c ring e r m b k o → r ≡ reply_of (answer_in r)
reply-read x = reply-back (record { answer = x.answer; answers = x.rolls.answers; reply = x.reply })

pub fresh-inside : (name : List ℕ) {r m b k : List ℕ} → (x : RollReplies (rolling_fresh name) 0 [] r m b k [])
    → Answers (fresh name) 0 [] x.answer m b []
unfolding rolling_fresh
fresh-inside name x = x.rolls.answers

begun-is : (name : List ℕ) {r m b k : List ℕ} → RollReplies (rolling_fresh name) 0 [] r m b k []
    → rolling m b k ≡ rolling_of (rolling_fresh name)
unfolding rolling_fresh
begun-is name x =
    let d = ap last_of x.rolls.counter ∙ last-read none in
    λ n. record { splicer = x.rolls.answers.splicer n; last = d n }

-- ## The engine's call that it amounts to

-- the engine's calls that it amounts to lead to the same memory, and are those of the rules
pub record Step (m : Memory) (i : RollInput) (r : RollSeen) : Type 0 where
  pub leads : engine.Leads m.core (as_made i r) (left r).core
  pub calls : engine.calls (as_made i r) ≡ as_calls (roll_call_of i) (shown m)

-- a time call: its course, c, is a refusal or brings the clock to an instant
module _ (m : Memory) (i : RollInput) (r : RollSeen) (l : LentAt m) (p : Promised m i r) where
  abbrev k : RollingCall
  k = roll_call_of i

  abbrev e : List ℕ
  e = roll_buffer_of i

  -- C reads the number of the answer
  number_is : (a : Answer) → r.reply ≡ reply_of (answer_in r.reply) → answer_in r.reply ≡ a → number r ≡ engine.number_in a
  unfolding reply_of engine.number_in
  number_is a f g = ap number_in (f ∙ ap reply_of g) ∙ number-told a

  -- what the engine's calls h are to be, if c is the course
  abbrev Stepped : Course → List engine.Made → Type 0
  Stepped c h = engine.Leads m.core h (left r).core × (engine.calls h ≡ as_move c (length e))

  abbrev one-move : ℕ → List engine.Made
  one-move until = engine.made (engine.a_move until e) (inside (seen_of r)) ∷ []

  course-step : (c : Course) (x : ℕ) → r.reply ≡ reply_of (answer_in r.reply) → roll k (shown m) ≡ rolls c x (shown m)
      → Ahead c (shown m).splicer.clock (length e) → Stepped c (time_made e r)
  unfolding rolls answer_of ticked engine.number_in
  course-step (refuses n) x f g a =
      let y : answer_in r.reply ≡ Err n = p.answers.answer ∙ ap (λ z. answer_of z.called.answer z.called.moved) g in
      let u = refused-unchanged k n m.core.words m.core.bytes m.counter e (answer_in r.reply) r.words r.bytes
      r.counter r.buffer l p y in
      let none_made : time_made e r ≡ [] =
      ap (λ b. cond b (one-move (shown (left r)).splicer.clock) [])
      (ap (λ z. eqb z 0) (number_is (Err n) f y) ∙ ne_eqb (house_number n) 0 (λ q. omega (arith, a-number n))) in
      subst (Stepped (refuses n)) (sym none_made) (memory-same (left r).core m.core u.0 u.1, refl)
  course-step (brings until) x f g a =
      let s = (shown m).splicer in
      let y : answer_in r.reply ≡ answer_of (ticked until s).answer (ticked until s).moved =
      p.answers.answer ∙ ap (λ z. answer_of z.called.answer z.called.moved) g in
      let t : (shown (left r)).splicer.clock ≡ until = ap (λ z. z.clock) (p.answers.splicer ∙ ap (λ z. z.called.splicer) g) in
      let one-made : time_made e r ≡ one-move until =
      ap (λ z. cond (eqb z 0) (one-move (shown (left r)).splicer.clock) []) (number_is _ f y) ∙ ap one-move t in
      let q : (roll k (shown m)).called ≡ move_call until (length e) s =
      ap (λ z. z.called) g ∙ sym (move_same until (length e) s (ltb-false (length e) 4096 a.0) a.1) in
      let w = subst (λ (w : Called). Answers w (see m.core.words).ring_end e (answer_in r.reply) r.words r.bytes r.buffer) q
      p.answers in
      subst (Stepped (brings until)) (sym one-made) ((a.2, w, refl), refl)

pub step : (m : Memory) (i : RollInput) (r : RollSeen) → LentAt m → RollTyped i → AllowedAt m i r → Step m i r
unfolding as_calls roll instant_call reading_call
step m (a_known i) r l t a =
    record {
      leads = (typed-handed i t.0, allowed-inside m.core i (seen_of r) a.0, refl);
      calls = ap (λ y. y ∷ []) (sym (call-handed i));
    }
step m (an_instant g e) r l t a =
    let w = roll-wired (an_instant g e) t in
    let c = instant_course (get_or g 0 0) (get_or g 1 0) (length e) (shown m).last in
    let q = course-step m (an_instant g e) r l (promised m (an_instant g e) r l t a) c (get_or g 2 0) (reply-read a) refl
    (instant-ahead (get_or g 0 0) (get_or g 1 0) (length e) (shown m).splicer.clock (shown m).last w.0 (lent-steady l)) in
    record { leads = q.0; calls = q.1 }
step m (a_reading x e) r l t a =
    let c = reading_course (shown m).splicer.clock x (length e) (shown m).last in
    let q = course-step m (a_reading x e) r l (promised m (a_reading x e) r l t a) c x (reply-read a) refl
    (reading-ahead (shown m).splicer.clock x (length e) (shown m).last) in
    record { leads = q.0; calls = q.1 }

-- ## The calls that led from one memory to another

calls-append : (h g : List engine.Made) → engine.calls (h ++ g) ≡ engine.calls h ++ engine.calls g
calls-append [] g = refl
calls-append (x ∷ h) g = ap (λ l. engine.call_of x.input ∷ l) (calls-append h g)

pub within-append : (h g : List Made) → within (h ++ g) ≡ within h ++ within g
unfolding within
within-append [] g = refl
within-append (x ∷ h) g = ap (λ l. as_made x.input x.result ++ l) (within-append h g)
    ∙ sym (append_assoc (as_made x.input x.result) (within h) (within g))

pub lent-next : (m : Memory) (i : RollInput) (r : RollSeen) → LentAt m → RollTyped i → AllowedAt m i r → LentAt (left r)
lent-next m i r l t a = (promised m i r l t a).lent

pub led-inside : (h : List Made) (b m : Memory) → LentAt b → Leads b h m → engine.Leads b.core (within h) m.core
unfolding within
led-inside [] b m t l = ap (λ y. y.core) l
led-inside (x ∷ h) b m t l =
    any.led-append engine.device (as_made x.input x.result) (within h) b.core (left x.result).core m.core
    (step b x.input x.result t l.0 l.1).leads
    (led-inside h (left x.result) m (promised b x.input x.result t l.0 l.1).lent l.2)

pub led-wired : (h : List Made) (b m : Memory) → Leads b h m → All RollWired (calls h)
led-wired = any.led-all device roll_call_of RollWired roll-wired

pub led-shown : (h : List Made) (b m : Memory) → LentAt b → Leads b h m → shown m ≡ rolled_after (calls h) (shown b)
unfolding rolled_after
led-shown [] b m t l = ap shown l
led-shown (x ∷ h) b m t l =
    let p = promised b x.input x.result t l.0 l.1 in
    led-shown h (left x.result) m p.lent l.2 ∙ ap (rolled_after (calls h)) (state-is b x.input x.result p)

pub calls-after : (h g : List Made) (r : Rolling) → rolled_after (calls (h ++ g)) r ≡ rolled_after (calls g) (rolled_after (calls h) r)
unfolding rolled_after
calls-after [] g r = refl
calls-after (x ∷ h) g r = calls-after h g (rolling_of (roll (roll_call_of x.input) r))

-- the engine's calls are those that the rules give
pub led-calls : (h : List Made) (b m : Memory) → LentAt b → Leads b h m → engine.calls (within h) ≡ as_moves (calls h) (shown b)
unfolding within as_moves
led-calls [] b m t l = refl
led-calls (x ∷ h) b m t l =
    let p = promised b x.input x.result t l.0 l.1 in
    let s = step b x.input x.result t l.0 l.1 in
    calls-append (as_made x.input x.result) (within h)
    ∙ ap₂ (λ y z. y ++ z) s.calls (led-calls h (left x.result) m p.lent l.2
    ∙ ap (as_moves (calls h)) (state-is b x.input x.result p))

-- ## Traces

module _ (name : List ℕ) (h : List Made) (m : Memory) where
  pub trace-lent : Trace name h m → LentAt m
  trace-lent t = any.led-kept device LentAt lent-next h t.begun m t.fresh.rolls.lent t.leads

  abbrev pub trace-inside : Trace name h m → engine.Trace name (within h) m.core
  trace-inside t =
      record {
        whole = t.whole;
        bytes = t.bytes;
        begun = t.begun.core;
        reply = t.fresh.answer;
        fresh = fresh-inside name t.fresh;
        leads = led-inside h t.begun m t.fresh.rolls.lent t.leads;
      }

  -- a known call, made next, is the engine's
  pub known_more : (i : Input) (r : RollSeen) → More name h m (a_known i) r
      → engine.More name (within h) m.core (handed i) (inside (seen_of r))
  known_more i r c =
      record {
        trace = trace-inside c.trace;
        typed = typed-handed i c.typed.0;
        allowed = allowed-inside m.core i (seen_of r) c.allowed.0;
      }

  -- what C reads of fresh's reply
  pub fresh-told : (t : Trace name h m) → number_in t.reply ≡ engine.number_in t.fresh.answer
  fresh-told t = ap number_in t.fresh.reply ∙ number-told t.fresh.answer

  pub fresh-moved : (t : Trace name h m) → moved_in t.reply ≡ engine.moved_in t.fresh.answer
  fresh-moved t = ap moved_in t.fresh.reply ∙ moved_told t.fresh.answer

  -- and the counter's words: no instant was given
  pub fresh-counter : (t : Trace name h m) → t.begun.counter ≡ counter_of none
  unfolding rolling_fresh
  fresh-counter t = t.fresh.rolls.counter

  pub trace-shown : Trace name h m → shown m ≡ rolled_after (calls h) (rolling_of (rolling_fresh name))
  trace-shown t = led-shown h t.begun m t.fresh.rolls.lent t.leads ∙ ap (rolled_after (calls h)) (begun-is name t.fresh)

  pub trace-calls : Trace name h m → engine.calls (within h) ≡ as_moves (calls h) (rolling_of (rolling_fresh name))
  trace-calls t = led-calls h t.begun m t.fresh.rolls.lent t.leads ∙ ap (as_moves (calls h)) (begun-is name t.fresh)
