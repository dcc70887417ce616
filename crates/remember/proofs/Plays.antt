-- A record played: the call that it is, and what is written behind that call.
-- Rests on: a reply says how many bytes the call wrote, a refusal writes none before its mark, and every answer fits the card's buffer.
use mathlib.Core.Path.{◌≡◌, refl, sym, subst, ap, ap₂, ◌∙◌}
use mathlib.Core.List.{List, [], ◌∷◌}
use Prim.Native.Nat.{ℕ, ◌+◌, ◌-◌, ◌≤◌}
use native.Mathlib.Omega.{arith}
use lib.ListN.{length, get_or, take, drop, set, length-drop}
use lib.Seq.{sets-eq, length-take-le, take_at, take_all}
use Rattle.rules.specs.Lists.{All}
use Rattle.rules.specs.Follows.Wires.{Byte}
use Rattle.rules.specs.Bytes.{part, padded, written}
use Rattle.rules.specs.HouseNumbers.{Answer, refused, good, written_by}
use Rattle.rules.specs.Calls.{Call, opens, closes, messages, ticks, call, after}
use Rattle.rules.specs.Card.{card_name, card_room, card_loans, message_end, Next, calls, ends, stops, next, told}
use Rattle.rules.specs.Follows.Sound.{Sound}
use Rattle.rules.proofs.Bytes.{padded-byte}
use Rattle.rules.proofs.Sound.{sound-always, sound-size}
use Rattle.rules.proofs.Tests.{by}
use Rattle.rules.proofs.Values.{field-one}
use Rattle.rules.proofs.Written.{written_none, length-written}
use Rattle.recall_log.specs.declared.Record.{Record}
use Rattle.recall_log.specs.declared.Record.TheVariants.{Open, Close, Message, Tick}
use Rattle.reply.specs.declared.Did.{Did}
use Rattle.std.specs.Prelude.{Option, None, Some, Ok, Err}
use Rattle.std.proofs.lemmas.Option.{none-some, same_Some}
use Rattle.recall_log.specs.declared.Refused.{Refused}
use Rattle.recall_log.specs.declared.Refused.TheVariants.{Full, Rule}
use Rattle.recall_log.specs.Log.{kept_calls, full}
use Rattle.recall_log.specs.Kept.{Reply, record_of, record_in, call_of, span_of, number_of, reply_of}
use Rattle.recall_log.proofs.Firsts.{first}
use Rattle.recall_log.proofs.Logs.{any-log}
use Rattle.recall.specs.Recall.{begun, Told, Recalled, told_by, recall_call, Remembers}
use Rattle.remember.specs.Said.{made_of, call_for, said, said_length, Says, Plays}

-- ## Behind a call

pub says-refused : {r : Reply} {n : Refused} (e : List ℕ) (x : ℕ) → r ≡ Err n → x ≡ number_of (Err n) → 2 ≤ length e
    → Says r e 2 (set (set e 0 0x45) 1 x)
unfolding said said_length number_of told written
says-refused e x f g h = go _ f g
  where
    go : {r : Reply} (n : Refused) → r ≡ Err n → x ≡ number_of (Err n) → Says r e 2 (set (set e 0 0x45) 1 x)
    go Full f g = record { count = rw f; bytes = rw (f, g) (sets-eq (said (Err Full) []) e 0 h) }
    go (Rule n) f g = record { count = rw f; bytes = rw (f, g) (sets-eq (said (Err (Rule n)) []) e 0 h) }

-- what a good call wrote stands there already
pub says-done : {r : Reply} {did : Did} (e : List ℕ) → r ≡ Ok did → Says r e did.written e
unfolding said said_length
says-done e f = record { count = rw f; bytes = rw f (sym (written_none e 0)) }

-- ## What is told of a call

-- all of it can be counted from the reply, stands at the start of the buffer, and fits there
record Fits (t : Told) : Type 0 where
  pub count : said_length t.reply ≡ length (said t.reply t.shows)
  pub whole : (e : List ℕ) → written (written e 0 t.shows) 0 (said t.reply []) ≡ written e 0 (said t.reply t.shows)
  pub room : length (said t.reply t.shows) ≤ card_room

fits-full : Fits (record { reply = Err Full; shows = [] })
unfolding said said_length number_of
fits-full = record { count = refl; whole = λ e. ap (λ x. written x 0 (said (Err Full) [])) (written_none e 0); room = omega arith }

fits-answer : (a : Answer) (moved : ℕ) → length (written_by a) ≤ card_room
    → Fits (record { reply = reply_of a moved; shows = written_by a })
unfolding said said_length number_of told reply_of written_by
fits-answer (refused n) moved h =
    record { count = refl; whole = λ e. ap (λ x. written x 0 (said (Err (Rule n)) [])) (written_none e 0); room = omega arith }
fits-answer (good consumed rs) moved h = record { count = refl; whole = λ e. written_none _ 0; room = h }

-- any bytes as a log lead to a splicer that the card can have too
sound : (g : List ℕ) → All Byte g → Sound (after (kept_calls g) begun)
unfolding begun card_name
sound g b =
    sound-always (kept_calls g) (padded card_name) refl (padded-byte card_name (omega arith, (omega arith, (omega arith, tt))))
    (any-log g b).0

fits : (k : Call) (g : List ℕ) → All Byte g → Fits (recall_call k g).told
unfolding recall_call told_by
fits k g b =
    let c = call k (after (kept_calls g) begun) in
    by (λ (x : Recalled). Fits x.told) (full g) _ _ (λ e. fits-full)
    (λ e. fits-answer c.answer c.moved (omega (arith, sound-size (after (kept_calls g) begun) (sound g b) k)))

front : (e w : List ℕ) → take (length w) (written e 0 w) ≡ w
unfolding written
front e w = take_at w _ (length w) refl

-- e: the buffer before the call; o: after it; p: with what is said behind it
pub plays : (l g : List ℕ) → All Byte g → {e : List ℕ} → length e ≡ card_room → {r : Reply} {n o : List ℕ}
    → Remembers (call_for l) g e r n o
    → {len : ℕ} {p : List ℕ} → Says r o len p → Plays g l len n p
plays l g b {e} h {r} {n} {o} m {len} {p} s =
    let t = (recall_call (call_for l) g).told in
    let f = fits (call_for l) g b in
    let w = said t.reply t.shows in
    let c : len ≡ length w = s.count ∙ ap said_length m.reply ∙ f.count in
    let i : p ≡ written e 0 w = s.bytes ∙ ap₂ (λ x y. written x 0 (said y [])) m.buffer m.reply ∙ f.whole e in
    record {
      log = m.log;
      output = ap₂ take c i ∙ front e w;
      within = omega (arith, c, ap length i, f.room, length-written e 0 w (omega (arith, f.room)));
    }

-- any two results that the promise allows are equal: the count, the log and what is written
pub plays-same : (l g : List ℕ) (n i : ℕ) (m j o p : List ℕ) → Plays g l n m o → Plays g l i j p → (n ≡ i) × (m ≡ j) × (take n o ≡ take i p)
plays-same l g n i m j o p a b =
    let e = a.output ∙ sym b.output in
    (sym (length-take-le n o a.within) ∙ ap length e ∙ length-take-le i p b.within, a.log ∙ sym b.log, e)

-- ## The call of a record

-- an open has no buffer, so it writes nothing into any
nothing : (s : List ℕ) → [] ≡ written [] 0 s → s ≡ []
unfolding written
nothing [] h = refl
nothing (x ∷ s) h = absurd (omega (arith, ap length h))

pub quiet : {k : Call} {g : List ℕ} {r : Reply} {n : List ℕ} (e : List ℕ) → Remembers k g [] r n [] → Remembers k g e r n e
quiet {k} {g} e m =
    record {
      reply = m.reply;
      log = m.log;
      buffer = sym (written_none e 0) ∙ ap (written e 0) (sym (nothing (recall_call k g).told.shows m.buffer));
    }

-- another name for one call
pub renamed : {k j : Call} {g e : List ℕ} {r : Reply} {n o : List ℕ} → k ≡ j → Remembers k g e r n o → Remembers j g e r n o
renamed {g = g} {e = e} {r = r} {n = n} {o = o} h m = subst (λ x. Remembers x g e r n o) h m

-- y: the record that was read, if any
module _ {y : Option Record} (l : List ℕ) (f : y ≡ record_in l) where
  pub record-within : {x : Record} → y ≡ Some x → span_of (Some x) ≤ length l
  unfolding record_in record_of
  record-within {x} g = go (next l) refl (sym f ∙ g)
    where
      go : (z : Next) → next l ≡ z → record_of z ≡ Some x → span_of (Some x) ≤ length l
      go (calls k m) e h =
          let b = first l e in
          omega (arith, b.span, b.there, ap (λ w. span_of (Some w)) (same_Some b.kind x (sym b.kind_is ∙ h)))
      go (ends k) e h = absurd (none-some x h)
      go stops e h = absurd (none-some x h)

  pub remembers-as : {x : Option Record} {k : Call} {i e : List ℕ} {r : Reply} {n o : List ℕ} → y ≡ x → k ≡ made_of x l
      → Remembers k i e r n o
      → Remembers (call_for l) i e r n o
  unfolding call_for
  remembers-as g h m = renamed (h ∙ ap (λ z. made_of z l) (sym g ∙ f)) m

module _ (l : List ℕ) where
  pub open_is : (c : ℕ) → opens c ≡ made_of (Some (Open c)) l
  unfolding made_of call_of
  open_is c = refl

  pub close-is : (c room : ℕ) → room ≡ card_room → closes c room ≡ made_of (Some (Close c)) l
  unfolding made_of call_of
  close-is c room h = ap (closes c) h

  pub tick_is : (seconds micros room : ℕ) → room ≡ card_room → ticks seconds micros room ≡ made_of (Some (Tick seconds micros)) l
  unfolding made_of call_of
  tick_is seconds micros room h = ap (ticks seconds micros) h

  -- the part of l between the mark and the end
  pub message-is : (c size : ℕ) → messages c (part 2 (message_end size - 2) l) card_loans ≡ made_of (Some (Message c size)) l
  unfolding made_of call_of
  message-is c size = let e : message_end size - 2 ≡ 8 + size = omega arith in ap (λ n. messages c (part 2 n l) card_loans) e

  -- all of l behind the mark
  pub rest-is : 2 ≤ length l → messages (get_or l 1 0) (part 2 (length l - 2) l) card_loans ≡ made_of None l
  unfolding made_of
  rest-is h =
      ap₂ (λ c m. messages c m card_loans) (sym (field-one 1 l (omega arith)))
      (take_all (length l - 2) (drop 2 l) (omega (arith, length-drop 2 l)))
