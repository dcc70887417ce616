-- 02, CR 8: the answer to an ExtendedData_Request, from the answer's bytes: the first of what ended lately with the connection and the
-- number,
-- and so of the ends that the answers told. Rests on rules' Recall, on Lately and on the bytes giving back their records.
use mathlib.Core.Path.{◌≡◌, refl, sym, ap, ◌∙◌}
use mathlib.Core.Bool.{Bool, true, false}
use mathlib.Core.List.{List, [], ◌∷◌}
use Prim.Native.Nat.{ℕ, zero, suc, ◌+◌, ◌<◌}
use native.Mathlib.Omega.{arith}
use lib.ListN.{length, get_or, take}
use Rattle.rules.specs.declared.Past.{Past}
use Rattle.rules.specs.Bytes.{message_size}
use Rattle.rules.specs.Lists.{some, place}
use Rattle.rules.specs.Reading.{read}
use Rattle.rules.specs.State.{Splicer, Lately, link_of}
use Rattle.rules.specs.Recent.{most_kept, unused, recent_from, recent}
use Rattle.rules.specs.Records.{Record, ExtendedFound, ExtendedNone}
use Rattle.rules.specs.Follows.ReadBack.{records_in}
use Rattle.rules.specs.Answers.{says, is_past, latest, recalls, extended_response, answer_read, answer}
use Rattle.rules.specs.HouseNumbers.{replies, Loans, written_by}
use Rattle.rules.specs.Calls.{handled, message_call, messages, call}
use Rattle.rules.proofs.Sound.{sound-found}
use Rattle.rules.proofs.Recall.{answers-latest, answers-none}
use Rattle.demands.specs.History.{Event}
use Rattle.demands.specs.Told.{FromFresh, Inquires, Finds}
use Rattle.demands.specs.Lately.{Told, of_number, answer_told, ends_told, As}
use Rattle.demands.proofs.Room.{from-sound, ready-open}
use Rattle.demands.proofs.Lately.{KeptWhole, lately-whole}

module _ (c : ℕ) (l : List ℕ) (loans : Loans) (x : ℕ) (s : Splicer) (a : Inquires c l loans x s) where
  extended-call : call (messages c l loans) s ≡ replies (8 + message_size l) (says (extended_response c x s.queue ∷ []) s)
  unfolding call message_call handled answer answer_read read
  extended-call = rw (a.low, a.roomy, ready-open (link_of c s) a.ready, a.short, a.framed, a.ready, a.readable)

  extended-record : (h : List Event) → FromFresh h s → records_in (written_by (call (messages c l loans) s).answer)
      ≡ extended_response c x s.queue ∷ []
  extended-record h f = rw (sound-found s (messages c l loans) a.wired (from-sound h s f), extended-call) refl

  -- the first that passes is at a place before which none does
  first-place : (p : Past → Bool) (l : List Past) (i : ℕ) → i < length l → p (get_or l i unused) ≡ true
      → ((j : ℕ) → j < i → p (get_or l j unused) ≡ false)
      → (some p l ≡ true) × (place p l ≡ i)
  unfolding place
  first-place p [] i h e n = absurd (omega arith)
  first-place p (y ∷ l) zero h e n = (rw e, rw e)
  first-place p (y ∷ l) (suc i) h e n =
      let r = first-place p l i (omega arith) e (λ j k. n (suc j) (omega arith)) in
      let z : p y ≡ false = n 0 (omega arith) in
      (rw z r.0, rw z (ap suc r.1))

  two-lengths : (y : Past) → ExtendedFound c x y.event y.result y.played ∷ [] ≡ ExtendedNone c x ∷ [] → ⊥
  two-lengths y e = let z : ◌≡◌ {A = ℕ} 0 1 = cc in omega arith

  -- it is what the list of what ended lately says
  pub extended-recalled : (h : List Event) → FromFresh h s → Finds c x (recent s.queue.lately)
      (written_by (call (messages c l loans) s).answer)
  unfolding latest
  extended-recalled h f =
      let L = recent s.queue.lately in
      let told = extended-record h f in
      record {
        found = λ i k e n. let r = first-place (is_past c x) L i k e n in
            told ∙ ap (λ (y : Record). y ∷ []) (answers-latest c x s.queue r.0)
            ∙ ap (λ (j : ℕ). ExtendedFound c x (get_or L j unused).event (get_or L j unused).result (get_or L j unused).played ∷ []) r.1;
        none = λ e. told ∙ ap (λ (y : Record). y ∷ []) (answers-none c x s.queue e);
        only = λ e. go (some (is_past c x) L) refl e told;
      }
    where
      go : (b : Bool) → some (is_past c x) (recent s.queue.lately) ≡ b
          → records_in (written_by (call (messages c l loans) s).answer) ≡ ExtendedNone c x ∷ []
          → records_in (written_by (call (messages c l loans) s).answer) ≡ extended_response c x s.queue ∷ [] → b ≡ false
      go false g e t = refl
      go true g e t =
          absurd (two-lengths (latest c x (recent s.queue.lately))
          (sym (ap (λ (y : Record). y ∷ []) (answers-latest c x s.queue g)) ∙ sym t ∙ e))

-- ## Of the ends that the answers told

take_none : (n : ℕ) → take {A = Told} n [] ≡ []
take_none zero = refl
take_none (suc n) = refl

recent-long : (i n : ℕ) (l : Lately) → length (recent_from i n l) ≡ n
unfolding recent_from
recent-long i zero l = refl
recent-long i (suc n) l = ap suc (recent-long (suc i) n l)

module _ (c x : ℕ) where
  first-told : (es : List Past) (ts : List Told) → KeptWhole es ts → recalls c x (latest c x es) ≡ answer_told c x (take (length es) ts)
  unfolding latest place answer_told
  first-told [] ts h = refl
  first-told (e ∷ es) [] h = rw h.0 (first-told es [] h.1 ∙ ap (answer_told c x) (take_none (length es)))
  first-told (e ∷ es) (t ∷ ts) h = go (of_number c x t) refl (first-told es ts h.1)
    where
      a : As e t
      a = h.0.0

      same : is_past c x e ≡ of_number c x t
      same = rw (h.0.1, a.conn, a.id)

      go : (b : Bool) → of_number c x t ≡ b → recalls c x (latest c x es) ≡ answer_told c x (take (length es) ts)
          → recalls c x (latest c x (e ∷ es)) ≡ answer_told c x (take (length (e ∷ es)) (t ∷ ts))
      go true n ih = rw (same, n, h.0.1, a.event, a.result, a.played)
      go false n ih = rw (same, n) ih

  pub extended-of-told : (h : List Event) (s : Splicer) → FromFresh h s → (l : List ℕ) (loans : Loans) → Inquires c l loans x s
      → records_in (written_by (call (messages c l loans) s).answer) ≡ answer_told c x (take most_kept (ends_told h)) ∷ []
  unfolding extended_response recent
  extended-of-told h s f l loans a =
      let L = recent s.queue.lately in
      extended-record c l loans x s a h f
      ∙ ap (λ (y : Record). y ∷ []) (first-told L (ends_told h) (lately-whole h s f)
      ∙ ap (λ (n : ℕ). answer_told c x (take n (ends_told h))) (recent-long 0 most_kept s.queue.lately))
