-- The next call of a trace: refused, and then it writes nothing and changes nothing, or a call of the engine's. Rests on proofs/Inside.
use mathlib.Core.Path.{◌≡◌, refl, sym, ap, subst, ◌∙◌}
use mathlib.Core.Bool.{Bool, true, false, cond}
use mathlib.Core.List.{List, [], ◌∷◌, ◌++◌, append-nil}
use Prim.Native.Nat.{ℕ, ◌≤◌, ◌<◌}
use native.Mathlib.Omega.{arith}
use lib.Dec.{eqb}
use lib.ListN.{length}
use borrow.Author.Tests.{eqb-false}
use Rattle.rules.specs.Calls.{Call, opens, closes, messages, ticks, moves, cues}
use Rattle.rules.specs.HouseNumbers.{written_by}
use Rattle.rules.specs.Rolling.{roll}
use Rattle.demands.specs.Told.{first_number, outs_of, granted_by}
use Rattle.demands.specs.History.{Reply, refusal, wrote, Event, ends_of, front, others_of}
use Rattle.demands.specs.Kept.{changed}
use Rattle.demands.specs.Kept as kept
use Rattle.demands.specs.Moments.{PlayedAs}
use Rattle.rules.specs.Lists.{All}
use Rattle.rules.specs.Follows.Sound.{Coded}
use Rattle.rules.specs.Follows.ReadBack.{is_splice}
use Rattle.rules.specs.Records.{Record}
use Rattle.rules.specs.Follows.ReadBack.{records_in, records_up_to}
use Rattle.memory.specs.Memory.{see}
use Rattle.engine.specs.Lent.{Answer}
use Rattle.std.specs.Prelude.{Err, Ok}
use Rattle.rolling.specs.Ruled.{roll_checks}
use Rattle.rolling.proofs.Laws.{refused-unchanged}
use Rattle.rolling.proofs.Laws as laws
use Rattle.door.specs.Door.{Replies, Input, call_of}
use Rattle.door_rolling.specs.RollDoor.{RollInput, a_known, an_instant, a_reading, roll_call_of, roll_buffer_of, RollSeen}
use Rattle.demands_engine.specs.Trace as engine
use Rattle.demands_engine.proofs.Steps.{memory-same, bytes_read, number_read}
use Rattle.demands_door.specs.Driven.{reply_in, handed, inside, answer_in}
use Rattle.demands_door.proofs.Inside.{number-inside, moved_inside, bytes_inside, reply-inside, reply-ruled, call-handed}
use Rattle.demands_rolling.specs.Rolled.{Memory, shown, LentAt, left, Made, made, More, seen_of, number, moved, bytes_of, others_by}
use Rattle.demands_rolling.specs.Rolled.{grants}
use Rattle.demands_rolling.specs.Rolled.{changes, time_made, as_made, within, AsRuled}
use Rattle.demands_rolling.proofs.Inside.{Promised, promised, state-is, Step, step, trace-lent, trace-inside, within-append}
use Rattle.demands_rolling.proofs.Inside.{replies-of}

-- nothing is written, no place shifted, and the memory is what it was
pub record Silent (m : Memory) (r : RollSeen) : Type 0 where
  pub bytes : bytes_of r ≡ []
  pub moved : moved r ≡ 0
  pub left : left r ≡ m

module _ (name : List ℕ) (h : List Made) (m : Memory) (i : RollInput) (r : RollSeen) (c : More name h m i r) where
  here : LentAt m
  here = trace-lent name h m c.trace

  holds : Promised m i r
  holds = promised m i r here c.typed c.allowed

  -- the door's promise, whatever the call
  replies : Replies (roll (roll_call_of i) (shown m)).called (see m.core.words).ring_end (roll_buffer_of i) r.reply r.words
      r.bytes r.buffer
  replies = replies-of m i r c.allowed

  pub as-ruled : AsRuled m i r
  as-ruled =
      record {
        state = state-is m i r holds;
        reply = reply-ruled replies;
        bytes = bytes_inside replies ∙ engine-bytes;
        buffer = holds.answers.buffer;
      }
    where
      engine-bytes : engine.bytes_in (answer_in r.reply) r.buffer ≡ written_by (roll (roll_call_of i) (shown m)).called.answer
      engine-bytes = rw (holds.answers.answer, holds.answers.buffer)
          (bytes_read (roll (roll_call_of i) (shown m)).called.answer (roll (roll_call_of i) (shown m)).called.moved (roll_buffer_of i))

  pub number-first : number r ≡ first_number (roll_checks (roll_call_of i) (shown m))
  number-first =
      number-inside replies ∙ ap engine.number_in holds.answers.answer
      ∙ number_read (roll (roll_call_of i) (shown m)).called.answer (roll (roll_call_of i) (shown m)).called.moved
      ∙ laws.bad-call-number (roll_call_of i) (shown m)

  pub unchanged : 0 < number r → (left r ≡ m) × (r.buffer ≡ roll_buffer_of i)
  unfolding engine.number_in
  unchanged bad = go (answer_in r.reply) refl
    where
      go : (a : Answer) → answer_in r.reply ≡ a → (left r ≡ m) × (r.buffer ≡ roll_buffer_of i)
      go (Err n) e =
          let u = refused-unchanged (roll_call_of i) n m.core.words m.core.bytes m.counter (roll_buffer_of i) (answer_in r.reply)
          r.words r.bytes r.counter r.buffer here holds e in
          ((λ j. record { core = memory-same (left r).core m.core u.0 u.1 j; counter = u.2 j }), u.3)
      go (Ok did) e =
          let z : number r ≡ 0 = number-inside replies ∙ ap engine.number_in e in
          absurd (omega arith)

  -- C reads the bytes that the engine has written
  pub bytes-are : bytes_of r ≡ engine.bytes_of (inside (seen_of r))
  bytes-are = bytes_inside replies

  pub moved-are : moved r ≡ engine.moved (inside (seen_of r))
  moved-are = moved_inside replies

  pub reply-are : reply_in r.reply r.buffer ≡ engine.reply_in (answer_in r.reply) r.buffer
  reply-are = reply-inside replies

  -- a call with a number writes nothing, shifts nothing and changes nothing
  refused-silent : eqb (number r) 0 ≡ false → Silent m r
  unfolding engine.number_in engine.bytes_in engine.moved_in
  refused-silent bad = go (answer_in r.reply) refl
    where
      go : (a : Answer) → answer_in r.reply ≡ a → Silent m r
      go (Err n) e =
          record {
            bytes = bytes_inside replies ∙ ap (λ a. engine.bytes_in a r.buffer) e;
            moved = moved_inside replies ∙ ap engine.moved_in e;
            left = (unchanged (omega (arith, eqb-false (number r) 0 bad))).0;
          }
      go (Ok did) e =
          let z : number r ≡ 0 = number-inside replies ∙ ap engine.number_in e in
          let y : true ≡ false = sym (ap (λ n. eqb n 0) z) ∙ bad in
          let x : ◌≡◌ {A = ℕ} 0 1 = cc in
          absurd (omega arith)

-- ## The engine's call

-- what an answer to it says, it says as an answer to the engine's call j
pub record Reads (i : RollInput) (j : engine.Input) : Type 0 where
  pub others : (rs : List Record) → others_by i rs ≡ others_of (engine.call_of j) rs
  pub grants : (rs : List Record) → grants i rs ≡ granted_by (engine.call_of j) rs
  pub changes : (d : ℕ) (a : Reply) → changes d i a ≡ changed d (engine.call_of j) a

-- j is the engine's, the one that this call amounts to; or there is none, and nothing is written or changed
pub data Next (name : List ℕ) (h : List Made) (m : Memory) (i : RollInput) (r : RollSeen) : Type 0 where
  silent : Silent m r → Next name h m i r
  calls-of : (j : engine.Input) → engine.More name (within h) m.core j (inside (seen_of r)) → Reads i j
      → as_made i r ≡ engine.made j (inside (seen_of r)) ∷ [] → Next name h m i r

known-reads : (i : Input) → Reads (a_known i) (handed i)
known-reads i =
    let same = call-handed i in
    record {
      others = λ rs. ap (λ k. others_of k rs) same;
      grants = λ rs. ap (λ k. granted_by k rs) same;
      changes = λ d a. ap (λ k. changed d k a) same;
    }

never-changes : (until room d : ℕ) (a : Reply) → false ≡ changed d (moves until room) a
unfolding changed kept.changes
never-changes until room d (refusal n) = refl
never-changes until room d (wrote l) = refl

instant-reads : (g e : List ℕ) (until : ℕ) → Reads (an_instant g e) (engine.a_move until e)
unfolding others_of granted_by
instant-reads g e until = record { others = λ rs. refl; grants = λ rs. refl; changes = never-changes until (length e) }

reading-reads : (x : ℕ) (e : List ℕ) (until : ℕ) → Reads (a_reading x e) (engine.a_move until e)
unfolding others_of granted_by
reading-reads x e until = record { others = λ rs. refl; grants = λ rs. refl; changes = never-changes until (length e) }

time-next : (name : List ℕ) (h : List Made) (m : Memory) (i : RollInput) (r : RollSeen) (c : More name h m i r) (b : Bool) (e : List ℕ)
    → eqb (number r) 0 ≡ b → as_made i r ≡ time_made e r → ((until : ℕ) → Reads i (engine.a_move until e)) → Step m i r → Next name h m i r
time-next name h m i r c true e q f o s =
    let t = (shown (left r)).splicer.clock in
    let g : as_made i r ≡ engine.made (engine.a_move t e) (inside (seen_of r)) ∷ [] =
    f ∙ ap (λ b. cond b (engine.made (engine.a_move t e) (inside (seen_of r)) ∷ []) []) q in
    let x = subst (λ y. engine.Leads m.core y (left r).core) g s.leads in
    calls-of (engine.a_move t e) (record { trace = trace-inside name h m c.trace; typed = x.0; allowed = x.1 }) (o t) g
time-next name h m i r c false e q f o s = silent (refused-silent name h m i r c q)

pub next : (name : List ℕ) (h : List Made) (m : Memory) (i : RollInput) (r : RollSeen) → More name h m i r → Next name h m i r
next name h m (a_known i) r c =
    let x = (step m (a_known i) r (trace-lent name h m c.trace) c.typed c.allowed).leads in
    calls-of (handed i) (record { trace = trace-inside name h m c.trace; typed = x.0; allowed = x.1 }) (known-reads i) refl
next name h m (an_instant g e) r c =
    time-next name h m (an_instant g e) r c (eqb (number r) 0) e refl refl (instant-reads g e)
    (step m (an_instant g e) r (trace-lent name h m c.trace) c.typed c.allowed)
next name h m (a_reading x e) r c =
    time-next name h m (a_reading x e) r c (eqb (number r) 0) e refl refl (reading-reads x e)
    (step m (a_reading x e) r (trace-lent name h m c.trace) c.typed c.allowed)

-- with it, the engine's calls are those of before and the one that it amounts to
pub within_more : (h : List Made) (i : RollInput) (r : RollSeen) → within (h ++ (made i r ∷ [])) ≡ within h ++ as_made i r
unfolding within
within_more h i r = within-append h (made i r ∷ []) ∙ ap (λ x. within h ++ x) (append-nil (as_made i r))

-- ## Nothing written

pub none-long : (l : List ℕ) → l ≡ [] → length l ≤ 3174
none-long l e = rw e (omega arith)

others-none : (k : Call) → others_of k [] ≡ []
unfolding others_of front
others-none (opens c) = refl
others-none (closes c room) = refl
others-none (messages c l loans) = go (is_splice l)
  where
    go : (b : Bool) → cond b (front {A = Record} []) [] ≡ []
    go true = refl
    go false = refl
others-none (ticks seconds micros room) = refl
others-none (moves until room) = refl
others-none (cues l pts seconds micros room) = refl

others-by-none : (i : RollInput) → others_by i [] ≡ []
others-by-none (a_known i) = others-none (call_of i)
others-by-none (an_instant g e) = refl
others-by-none (a_reading x e) = refl

none_in : records_in [] ≡ []
unfolding records_in records_up_to
none_in = refl

pub none-ends : (d x : ℕ) (i : RollInput) (l : List ℕ) (n : ℕ) → l ≡ [] → ends_of d x (others_by i (records_in l)) ≤ n
none-ends d x i l n e = rw (e, none_in, others-by-none i) (omega arith)

pub none-outs : (d x : ℕ) (l : List ℕ) (n : ℕ) → l ≡ [] → outs_of d x (records_in l) ≤ n
none-outs d x l n e = rw (e, none_in) (omega arith)

pub none-coded : (l : List ℕ) → l ≡ [] → All Coded (records_in l)
none-coded l e = rw (e, none_in) tt

pub none-played : (e : List Event) (l : List ℕ) → l ≡ [] → PlayedAs e (records_in l)
none-played e l f = rw (f, none_in) (λ c x. tt)
