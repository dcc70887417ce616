-- What a call can do: what is shown of each of these cases holds of every call. Assumes nothing.
-- The refusals and choices of the calls are walked here, once.
use mathlib.Core.Path.{◌≡◌, refl}
use mathlib.Core.Bool.{Bool, true, false, cond, not, ◌&&◌, ◌||◌}
use mathlib.Core.List.{List, [], ◌∷◌}
use Prim.Native.Nat.{ℕ, ◌+◌, ◌≤◌, ◌<◌}
use native.Mathlib.Omega.{arith}
use lib.Dec.{eqb, ltb}
use lib.ListN.{length}
use borrow.Author.Tests.{eqb-true, ltb-false, not-false}
use Rattle.rules.specs.declared.Refusal.{Refusal}
use Rattle.rules.specs.declared.Request.{Request}
use Rattle.rules.specs.declared.Message.{Message}
use Rattle.rules.specs.declared.Message.TheVariants.{Splice}
use Rattle.rules.specs.declared.Link.TheVariants.{Opened}
use Rattle.rules.specs.Units.{time_of, bad_micros, from_micros}
use Rattle.rules.specs.Bytes.{message_id, message_size, oversize, field, same_name}
use Rattle.rules.specs.Reading.{init_request, alive_request, splice_request, abort_request, config_request, extended_request, channel_name}
use Rattle.rules.specs.Hardware.{hardware_in}
use Rattle.rules.specs.Request.{session_id, tail_of, bad_splice, whole_request}
use Rattle.rules.specs.Reading.{bad_init, bad_extended, read_init, read_alive}
use Rattle.rules.specs.Reading.{read_abort, read_config, read_extended, is_read, read}
use Rattle.rules.specs.Request.{read_whole, read_splice}
use Rattle.rules.specs.Follows.ReadBack.{data_in, is_splice}
use Rattle.rules.specs.State.{Splicer, holds, link_of, is_open, is_initialised, with_queue, with_link}
use Rattle.rules.specs.Records.{General, InitResponse, SpliceResponse, AbortResponse}
use Rattle.rules.specs.Ends.{Turn, and_then, writes, aborted, closed_by}
use Rattle.rules.specs.Answers.{Answered, says, turns}
use Rattle.rules.specs.Splicing.{requested, wrong_number, too_late, collides, full, first_of, splice_result}
use Rattle.rules.specs.Splicing.{Spliced, grants, answer_splice}
use Rattle.rules.specs.Answers.{splices, answer_abort, init_result, initialised, answer_init}
use Rattle.rules.specs.Answers.{alive_response, config_response, extended_response, answer_read, answer}
use Rattle.rules.specs.HouseNumbers.{Called, refuse, does, replies, no_connection, no_room, not_open, long_section}
use Rattle.rules.specs.Calls.{section_of, shut, open_call}
use Rattle.rules.specs.Calls.{close_call, framing, handled, message_call, ticked, move_call, tick_call, Call, opens, closes}
use Rattle.rules.specs.HouseNumbers.{Loans}
use Rattle.rules.specs.Calls.{messages, ticks, moves, cues, cue_call, call}
use Rattle.rules.specs.Cues.{bad_section, read_cue, cue_time, initialised_ones, cue_records}
use Rattle.rules.specs.Lists.{All, some}
use Rattle.rules.specs.Follows.Sound.{codes, Given}
use Rattle.rules.proofs.Tests.{by, clash}
use Rattle.rules.proofs.Checks.{Passed, passed-all}
use Rattle.std.specs.Prelude.{Result, Option, Some}
use Rattle.rules.specs.declared.Header.{Header}

-- a call that brings the clock to a time
pub data Brings : Call → ℕ → Type 0 where
  tick : (seconds micros room : ℕ) → micros ≤ 999999 → Brings (ticks seconds micros room) (from_micros (time_of seconds micros)).0
  move : (until room : ℕ) → Brings (moves until room) until

-- what the answer to the message l of connection c, where the map on air is the section, can be; D: what is to be shown of an answer
pub record Answering (c : ℕ) (l section : List ℕ) (s : Splicer) (D : Answered → Type 0) : Type 0 where
  pub silent : is_splice l ≡ false → D (says [] s)
  pub general : (r : ℕ) → Given r → D (says (General c r ∷ []) s)
  pub naming : (r : ℕ) → Given r → is_splice l ≡ false → bad_init (data_in l) ≡ false
      → D (says (InitResponse c r s.name ∷ []) (cond (eqb r 100) (initialised c (hardware_in (data_in l)) s) s))
  pub alive : is_splice l ≡ false → D (says (alive_response c s ∷ []) s)
  pub telling : is_splice l ≡ false → D (says (config_response c section s ∷ []) s)
  pub unknown : (x : ℕ) → is_splice l ≡ false → x ≡ session_id (data_in l) → D (says (AbortResponse c 121 x ∷ []) s)
  pub aborting : (x : ℕ) → is_splice l ≡ false → x ≡ session_id (data_in l) → holds c x s.queue ≡ true
      → D (turns (and_then (writes (AbortResponse c 100 x ∷ []) s.queue) (aborted c x)) s)
  pub recalling : (x : ℕ) → is_splice l ≡ false → x ≡ session_id (data_in l) → D (says (extended_response c x s.queue ∷ []) s)
  pub declining : (r : Request) (v : ℕ) → is_splice l ≡ true → read_splice (data_in l) ≡ Some (Splice r) → Given v → eqb v 100 ≡ false
      → D (says (SpliceResponse c v r.id ∷ []) s)
  pub accepting : (r : Request) → is_splice l ≡ true → read_splice (data_in l) ≡ Some (Splice r) → Passed s.clock c r s.queue
      → D (splices (grants (requested c r s.queue) s.queue) s)

-- the call k of the message l gives an answer that P holds of
abbrev pub Handles : (Call → Called → Type 0) → ℕ → List ℕ → Loans → Answered → Type 0
Handles P c l loans a = P (messages c l loans) (replies (8 + message_size l) a)

-- what has to be shown of a call k to s and what comes of it
pub record Cases (s : Splicer) (P : Call → Called → Type 0) : Type 0 where
  pub refusing : (k : Call) (n : Refusal) → P k (refuse n s)
  pub opening : (c : ℕ) → c ≤ 3 → is_open (link_of c s) ≡ false → P (opens c) (does 0 [] (with_link c Opened s))
  pub closing : (c room : ℕ) → c ≤ 3 → is_open (link_of c s) ≡ true
      → P (closes c room) (does 0 (closed_by c s.queue).written (shut c (with_queue (closed_by c s.queue).queue s)))
  pub answering : (c : ℕ) (l : List ℕ) (loans : Loans) → c ≤ 3 → is_open (link_of c s) ≡ true → long_section loans ≡ false
      → Answering c l (section_of loans s) s (Handles P c l loans)
  pub bringing : (k : Call) (until : ℕ) → Brings k until → s.clock ≤ until → P k (ticked until s)
  -- 02, CR 7
  pub cueing : (l : List ℕ) (pts seconds micros room : ℕ) → bad_section l ≡ false
      → P (cues l pts seconds micros room) (does 0 (cue_records (read_cue l) (cue_time pts seconds micros (read_cue l)) l
      (initialised_ones s.links)) s)

-- ## Result codes

-- each has two bytes
pub given_below : (n : ℕ) → Given n → n < 65536
given_below n g = go codes (
  omega arith,
  (
    omega arith,
    (
      omega arith,
      (
        omega arith,
        (
          omega arith,
          (
            omega arith,
            (
              omega arith,
              (
                omega arith,
                (omega arith, (omega arith, (omega arith, (omega arith, (omega arith, tt))))),
              ),
            ),
          ),
        ),
      ),
    ),
  ),
) g
  where
    go : (l : List ℕ) → All (λ k. k < 65536) l → some (eqb n) l ≡ true → n < 65536
    go [] a e = absurd (clash false e refl)
    go (k ∷ l) a e = on (eqb n k) refl (go l a.1) e
      where
        on : (b : Bool) → eqb n k ≡ b → (some (eqb n) l ≡ true → n < 65536) → (b || some (eqb n) l) ≡ true → n < 65536
        on true f i h = omega (arith, eqb-true n k f, a.0)
        on false f i h = i h

first-given : (b c d e : Bool) → Given (first_of b c d e)
first-given true c d e = refl
first-given false true d e = refl
first-given false false true e = refl
first-given false false false true = refl
first-given false false false false = refl

init-given : (revision : ℕ) (asked name : List ℕ) → Given (init_result revision asked name)
unfolding init_result
init-given revision asked name =
    by Given (not (eqb revision 2)) _ _ (λ e. refl) (λ e. by Given (not (same_name asked name)) 104 100 (λ f. refl) (λ f. refl))

-- ## Messages

module _ (c : ℕ) (l section : List ℕ) (s : Splicer) (D : Answered → Type 0) (k : Answering c l section s D) where
  -- another MessageID than a Splice_Request's
  other : (id : ℕ) → eqb (message_id l) id ≡ true → eqb id splice_request ≡ false → is_splice l ≡ false
  other id e f = rw (eqb-true (message_id l) id e) f

  abort-case : (x : ℕ) → is_splice l ≡ false → x ≡ session_id (data_in l) → D (turns (answer_abort c x s.queue) s)
  unfolding answer_abort
  abort-case x e f = by (λ (t : Turn). D (turns t s)) (holds c x s.queue) _ _ (λ i. k.aborting x e f i) (λ i. k.unknown x e f)

  splice-case : (r : Request) → is_splice l ≡ true → read_splice (data_in l) ≡ Some (Splice r)
      → D (splices (answer_splice s.clock c r s.queue) s)
  unfolding answer_splice splice_result
  splice-case r e f =
      let q = s.queue in
      let v = splice_result s.clock c r (requested c r q) q in
      let low : Given v = first-given (wrong_number c r q) (too_late s.clock r.start) (collides (requested c r q) q.waiting)
      (full c q.waiting) in
      by (λ (a : Spliced). D (splices a s)) (eqb v 100) _ _
      (λ i. k.accepting r e f (passed-all s.clock c r q (eqb-true v 100 i))) (λ i. k.declining r v e f low i)

  read-case : D (answer_read c (read (message_id l) (data_in l)) (data_in l) section s)
  unfolding answer_read answer_init read read_init read_alive read_abort read_config read_extended read_whole read_splice
  read-case =
      let d = data_in l in
      let M : Option Message → Type 0 = λ m. D (answer_read c m d section s) in
      let bad = k.general 123 refl in
      by M (eqb (message_id l) init_request) _ _
      (λ e. by M (bad_init d) _ _ (λ f. bad) (λ f. k.naming _ (init-given (field 0 2 d) (channel_name d) s.name)
      (other init_request e refl) f))
      (λ e. by M (eqb (message_id l) alive_request) _ _
      (λ f. by M (eqb (length d) 8) _ _ (λ g. k.alive (other alive_request f refl)) (λ g. bad))
      (λ f. by M (eqb (message_id l) splice_request) _ _
      (λ g. by M (ltb (length d) 18) _ _ (λ h. bad)
      (λ h. by M (bad_splice d (tail_of d)) _ _ (λ i. bad) (λ i. splice-case (whole_request d (tail_of d)) g (rw (h, i)))))
      (λ g. by M (eqb (message_id l) abort_request) _ _
      (λ h. by M (eqb (length d) 4) _ _ (λ i. abort-case (session_id d) g refl) (λ i. bad))
      (λ h. by M (eqb (message_id l) extended_request) _ _
      (λ i. by M (bad_extended d) _ _ (λ j. bad) (λ j. k.recalling (session_id d) g refl))
      (λ i. by M (eqb (message_id l) config_request) _ _
      (λ j. by M (eqb (length d) 0) _ _ (λ m. k.telling (other config_request j refl)) (λ m. bad)) (λ j. bad))))))

  answer-case : D (answer c (message_id l) (data_in l) section s)
  unfolding answer
  answer-case =
      by D (eqb (message_id l) 0x0000) _ _ (λ e. k.silent (other 0x0000 e refl))
      (λ e. by D (not (is_initialised (link_of c s)) && not (eqb (message_id l) init_request)) _ _ (λ i. k.general 103 refl)
      (λ i. by D (eqb (message_id l) 0x000D) _ _ (λ j. k.silent (other 0x000D j refl))
      (λ j. by D (not (is_read (message_id l))) _ _ (λ m. k.general 120 refl) (λ m. read-case))))

-- ## Calls

module _ (s : Splicer) (P : Call → Called → Type 0) (k : Cases s P) where
  handled-case : (c : ℕ) (l : List ℕ) (loans : Loans) → c ≤ 3 → is_open (link_of c s) ≡ true → long_section loans ≡ false
      → P (messages c l loans) (handled c (framing l) l loans s)
  unfolding handled framing
  handled-case c l loans low up short =
      let G : Result Header Refusal → Type 0 = λ g. P (messages c l loans) (handled c g l loans s) in
      by G (ltb (length l) 8) _ _ (λ e. k.refusing (messages c l loans) _)
      (λ e. by G (oversize l) _ _ (λ f. k.refusing (messages c l loans) _)
      (λ f. by G (ltb (length l) (8 + message_size l)) _ _ (λ g. k.refusing (messages c l loans) _)
      (λ g. answer-case c l (section_of loans s) s (Handles P c l loans) (k.answering c l loans low up short))))

  move-case : (j : Call) (until room : ℕ) → Brings j until → P j (move_call until room s)
  unfolding move_call
  move-case j until room b =
      by (P j) (no_room room) _ _ (λ e. k.refusing j _)
      (λ e. by (P j) (ltb until s.clock) _ _ (λ i. k.refusing j _) (λ i. k.bringing j until b (ltb-false until s.clock i)))

  pub cases : (j : Call) → P j (call j s)
  unfolding call open_call close_call message_call tick_call cue_call
  cases (opens c) =
      by (P (opens c)) (no_connection c) _ _ (λ e. k.refusing (opens c) _)
      (λ e. by (P (opens c)) (is_open (link_of c s)) _ _ (λ i. k.refusing (opens c) _) (λ i. k.opening c (ltb-false 3 c e) i))
  cases (closes c room) =
      by (P (closes c room)) (no_connection c) _ _ (λ e. k.refusing (closes c room) _)
      (λ e. by (P (closes c room)) (no_room room) _ _ (λ i. k.refusing (closes c room) _)
      (λ i. by (P (closes c room)) (not_open c s) _ _ (λ j. k.refusing (closes c room) _)
      (λ j. k.closing c room (ltb-false 3 c e) (not-false (is_open (link_of c s)) j))))
  cases (messages c l loans) =
      by (P (messages c l loans)) (no_connection c) _ _ (λ e. k.refusing (messages c l loans) _)
      (λ e. by (P (messages c l loans)) (no_room loans.room) _ _ (λ i. k.refusing (messages c l loans) _)
      (λ i. by (P (messages c l loans)) (not_open c s) _ _ (λ j. k.refusing (messages c l loans) _)
      (λ j. by (P (messages c l loans)) (long_section loans) _ _ (λ m. k.refusing (messages c l loans) _)
      (λ m. handled-case c l loans (ltb-false 3 c e) (not-false (is_open (link_of c s)) j) m))))
  cases (ticks seconds micros room) =
      by (P (ticks seconds micros room)) (no_room room) _ _ (λ e. k.refusing (ticks seconds micros room) _)
      (λ e. by (P (ticks seconds micros room)) (bad_micros micros) _ _ (λ i. k.refusing (ticks seconds micros room) _)
      (λ i. move-case (ticks seconds micros room) _ room (tick seconds micros room (ltb-false 999999 micros i))))
  cases (moves until room) = move-case (moves until room) until room (move until room)
  cases (cues l pts seconds micros room) =
      let j = cues l pts seconds micros room in
      by (P j) (no_room room) _ _ (λ e. k.refusing j _)
      (λ e. by (P j) (bad_micros micros) _ _ (λ i. k.refusing j _)
      (λ i. by (P j) (bad_section l) _ _ (λ f. k.refusing j _) (λ f. k.cueing l pts seconds micros room f)))
