-- The pass over a log, from call to call. Rests on recall_log's laws of a walk, and on what holds of a pass from fresh on.
use mathlib.Core.Path.{◌≡◌, refl, sym, ap, ap₂, subst, ◌∙◌}
use mathlib.Core.List.{List, [], ◌∷◌, ◌++◌, append-nil}
use Prim.Native.Nat.{ℕ, ◌+◌, ◌-◌, ◌*◌, ◌≤◌, ◌<◌}
use native.Mathlib.Omega.{arith}
use lib.ListN.{length, take, drop, length-append, length-drop}
use lib.Seq.{append_snoc, drop-drop}
use borrow.Rule.Slice.PartMut.{mid_of}
use Rattle.std.specs.Prelude.{Option, None, Some}
use Rattle.std.proofs.lemmas.Option.{same_Some}
use Rattle.rules.specs.Lists.{All}
use Rattle.rules.specs.Follows.Wires.{Byte}
use Rattle.rules.specs.Bytes.{value, part, message_size}
use Rattle.rules.specs.Calls.{Call, opens, closes, messages, ticks, moves, cues}
use Rattle.rules.specs.Card.{card_name, card_loans, card_room, Next, calls, ends, stops, next}
use Rattle.rules.specs.Follows.Sound.{Wired}
use Rattle.rules.proofs.Every.{all-parts}
use Rattle.reading.proofs.Laws.{behind}
use Rattle.recall_rules.specs.Calls.{Pass, open_call, close_call, tick_call, call, begun, passed}
use Rattle.recall_rows.specs.Rows.{width, Fits}
use Rattle.recall_answers.specs.declared.Carried.{Carried}
use Rattle.recall_answers.specs.Replies.{Placed}
use Rattle.recall_log.specs.declared.Record.{Record}
use Rattle.recall_log.specs.declared.Record.TheVariants.{Open, Close, Message, Tick}
use Rattle.recall_log.specs.Log.{kept_calls, most_calls}
use Rattle.recall_log.specs.Kept.{record_of, record_in, call_of, span_of}
use Rattle.recall_log.proofs.Firsts.{part-take, first}
use Rattle.recall_log.proofs.Reading.{walk_end, walk-within, walk-calls}
use Rattle.recall_log.proofs.Logs.{any-log}
use Rattle.recall_pass.specs.Passes.{pass_in, BeginsAny, Steady, Ready, Leads, Passed}
use Rattle.recall_pass.proofs.Laws.{steady-begun, steady-call, steady-ready, passed-last}

-- ## One record

-- the MessageSize of a message's record
abbrev Says : List ℕ → Option Record → Type 0
Says l (Some (Open c)) = Unit {0}
Says l (Some (Close c)) = Unit {0}
Says l (Some (Message c n)) = n ≡ message_size (drop 2 l)
Says l (Some (Tick seconds micros)) = Unit {0}
Says l None = Unit {0}

says : (l : List ℕ) → Says l (record_in l)
unfolding record_in record_of call_of span_of
says l = go (next l) refl
  where
    go : (x : Next) → next l ≡ x → Says l (record_of x)
    go (calls (opens c) m) e = tt
    go (calls (closes c room) m) e = tt
    go (calls (messages c k loans) m) e =
        let f = first l e in
        let kind : Message c (message_size k) ≡ f.kind = same_Some _ _ f.kind_is in
        let span : 10 + message_size k ≡ f.size = ap (λ y. span_of (Some y)) kind ∙ f.span in
        let made : messages c (part 2 (8 + message_size k) l) card_loans ≡ messages c k loans =
        ap (λ x. call_of (Some x) l) kind ∙ f.made in
        let p : part 2 (8 + message_size k) l ≡ k = cc in
        ap (λ (x : List ℕ). message_size x) (sym p)
        ∙ ap value (part-take 2 2 (8 + message_size k) (drop 2 l) (omega arith) (omega (arith, f.there, span, length-drop 2 l)))
    go (calls (ticks seconds micros room) m) e = tt
    go (calls (moves until room) m) e = tt
    go (calls (cues section pts seconds micros room) m) e = tt
    go (ends k) e = tt
    go stops e = tt

-- the record x stands at the place `at`
module _ (log : List ℕ) (at : ℕ) {x : Record} (is : record_in (drop at log) ≡ Some x) where
  module _ {c n : ℕ} (e : x ≡ Message c n) where
    size_is : n ≡ message_size (drop (at + 2) log)
    size_is = subst (Says (drop at log)) (is ∙ ap (λ y. Some y) e) (says (drop at log))
        ∙ ap (λ (l : List ℕ). message_size l) (drop-drop 2 at log)

    -- the message ends within the log
    pub message-within : at ≤ length log → at + 2 + (8 + message_size (drop (at + 2) log)) ≤ length log
    unfolding span_of
    message-within h =
        omega (arith, (walk-within log at h (ap record_in (behind at log) ∙ is)).1, ap (λ y. span_of (Some y)) e, size_is)

  module _ (h : Carried) (m : List ℕ) (r : Carried) (k : List ℕ) where
    abbrev Led : Record → Type 0
    Led y = Leads log h (call (call_of (Some y) (drop at log)) (pass_in log h m)) r k

    pub led-open : {c : ℕ} → x ≡ Open c → Leads log h (open_call c (pass_in log h m)) r k
        → Leads log h (call (call_of (Some x) (drop at log)) (pass_in log h m)) r k
    unfolding call call_of
    led-open e g = subst Led (sym e) g

    -- room: the length of the buffer
    pub led-close : {c room : ℕ} → x ≡ Close c → room ≡ card_room → Leads log h (close_call c room (pass_in log h m)) r k
        → Leads log h (call (call_of (Some x) (drop at log)) (pass_in log h m)) r k
    unfolding call call_of
    led-close {c} e i g = subst Led (sym e) (subst (λ (j : ℕ). Leads log h (close_call c j (pass_in log h m)) r k) i g)

    pub led-tick : {seconds micros room : ℕ} → x ≡ Tick seconds micros → room ≡ card_room
        → Leads log h (tick_call seconds micros room (pass_in log h m)) r k
        → Leads log h (call (call_of (Some x) (drop at log)) (pass_in log h m)) r k
    unfolding call call_of
    led-tick {seconds} {micros} e i g = subst Led (sym e)
        (subst (λ (j : ℕ). Leads log h (tick_call seconds micros j (pass_in log h m)) r k) i
        g)

    pub led-message : {c n : ℕ} → x ≡ Message c n
        → Leads log h (call (messages c (part (at + 2) (8 + message_size (drop (at + 2) log)) log) card_loans) (pass_in log h m)) r k
        → Leads log h (call (call_of (Some x) (drop at log)) (pass_in log h m)) r k
    unfolding call_of
    led-message {c} {n} e g =
        subst Led (sym e)
        (subst (λ (y : List ℕ). Leads log h (call (messages c y card_loans) (pass_in log h m)) r k)
        (ap₂ (λ (j : ℕ) (y : List ℕ). take (8 + j) y) (sym (size_is e)) (sym (drop-drop 2 at log))) g)

-- ## From call to call

-- `before`: the calls before the place `at`
pub record Walking (log : List ℕ) (h : Carried) (m : List ℕ) (at : ℕ) : Type 0 where
  pub before : List Call
  pub there : at ≤ length log
  pub calls : kept_calls log ≡ before ++ kept_calls (drop at log)
  pub pass : pass_in log h m ≡ passed before (begun card_name)
  pub steady : Steady (pass_in log h m)
  pub few : h.rows ≤ length before
  pub placed : All (Placed log) h.places

pub walking-first : (log : List ℕ) {h : Carried} (m : List ℕ) → BeginsAny h → Walking log h m 0
unfolding passed
walking-first log m b =
    let a = b log m in
    record {
      before = [];
      there = omega arith;
      calls = refl;
      pass = a.pass;
      steady = subst Steady (sym a.pass) steady-begun;
      few = omega (arith, a.none);
      placed = a.placed;
    }

module _ {log : List ℕ} {h : Carried} {m : List ℕ} {at : ℕ} (w : Walking log h m at)
    (most : length (kept_calls log) < most_calls) (wide : most_calls * width ≤ length m) where
  counted : length (kept_calls log) ≡ length w.before + length (kept_calls (drop at log))
  counted = ap length w.calls ∙ length-append w.before (kept_calls (drop at log))

  pub walking-fits : Fits (h.rows + 1) m
  walking-fits = omega (arith, counted, w.few)

  pub walking-ready : Ready h m
  walking-ready = steady-ready log h m (omega (arith, walking-fits)) w.steady

  pub walking-end : record_in (mid_of at (length log - at) log) ≡ None → Passed log h m
  walking-end z =
      let a : w.before ≡ kept_calls log = sym (append-nil w.before)
      ∙ ap (λ (y : List Call). w.before ++ y) (sym (walk_end log at z).0) ∙ sym w.calls in
      record {
        pass = w.pass ∙ ap (λ (y : List Call). passed y (begun card_name)) a;
        steady = w.steady;
        fits = walking-fits;
        placed = w.placed;
      }

  -- r: the record there, of k bytes
  module _ {r : Record} (e : record_in (mid_of at (length log - at) log) ≡ Some r) where
    pub walking-record : (record_in (drop at log) ≡ Some r) × (at ≤ length log)
    walking-record = (ap record_in (sym (behind at log)) ∙ e, w.there)

    abbrev c : Call
    c = call_of (Some r) (drop at log)

    abbrev behind-it : List Call
    behind-it = kept_calls (drop (at + span_of (Some r)) log)

    more : kept_calls log ≡ w.before ++ (c ∷ behind-it)
    more = w.calls ∙ ap (λ (y : List Call). w.before ++ y) (walk-calls log at w.there e)

    module _ {k : ℕ} (f : k ≡ span_of (Some r)) where
      pub walking-within : (2 ≤ k) × (at + k ≤ length log)
      walking-within = let y = walk-within log at w.there e in (omega (arith, y.0, f), omega (arith, y.1, f))

      pub walking-next : All Byte log → {h' : Carried} {m' : List ℕ} → Leads log h (call c (pass_in log h m)) h' m'
          → Walking log h' m' (at + k)
      walking-next b {h'} {m'} l =
          let wired = (all-parts Wired w.before (c ∷ behind-it) (subst (All Wired) more (any-log log b).0)).1.0 in
          subst (λ (i : ℕ). Walking log h' m' (at + i)) (sym f)
          (record {
            before = w.before ++ (c ∷ []);
            there = (walk-within log at w.there e).1;
            calls = more ∙ sym (append_snoc w.before c behind-it);
            pass = l.pass ∙ ap (λ (s : Pass). (call c s).pass) w.pass ∙ sym (passed-last w.before c (begun card_name));
            steady = subst Steady (sym l.pass) (steady-call c wired w.steady);
            few = omega (arith, l.few, w.few, length-append w.before (c ∷ []));
            placed = l.placed w.placed;
          })
