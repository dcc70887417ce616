-- 02, CR 6: what a connection keeps is what the calls and the answers' bytes tell, and GetConfig_Requests are answered with it.
-- Rests on the cases of a call (rules' Cases), and on what is found in the bytes (rules' Sound).
use mathlib.Core.Path.{◌≡◌, refl, sym, ap, subst, ◌∙◌}
use mathlib.Core.Bool.{Bool, true, false, cond, ◌&&◌}
use mathlib.Core.List.{List, [], ◌∷◌, ◌++◌}
use Prim.Native.Nat.{ℕ, zero, suc, ◌+◌, ◌≤◌}
use native.Mathlib.Omega.{arith}
use lib.Dec.{eqb, ltb}
use lib.ListN.{length, get_or, set, drop, length-drop}
use lib.Seq.{get_or-set_same, get_or-set_other, length-take-le}
use borrow.Author.Tests.{eqb-true, eqb-false, eq-eqb, ltb-false}
use Rattle.rules.specs.declared.Link.TheVariants.{Closed, Opened}
use Rattle.rules.specs.declared.Refusal.TheVariants.{NoConnection, AlreadyOpen}
use Rattle.rules.specs.declared.Session.{Session}
use Rattle.rules.specs.Bytes.{message_size, oversize, data_of, has_zero}
use Rattle.rules.specs.Reading.{read_alive, read_config, read, alive_request}
use Rattle.rules.specs.Hardware.{hardware_in}
use Rattle.rules.specs.Follows.ReadBack.{data_in}
use Rattle.rules.specs.State.{Splicer, no_hardware, hardware_of, link_of, is_open, with_link}
use Rattle.rules.specs.Records.{Record, General, AbortResponse, ConfigResponse}
use Rattle.rules.specs.Follows.ReadBack.{records_in}
use Rattle.rules.specs.Ends.{and_then, aborted, evicted}
use Rattle.rules.specs.Answers.{says, initialised, air_state, air_feed, alive_response, config_response, answer}
use Rattle.rules.specs.Splicing.{requested, accepts, accepted}
use Rattle.rules.specs.Answers.{answer_read}
use Rattle.rules.specs.HouseNumbers.{Answer, refused, good, Called, refuse, does, replies, written_by, no_connection, Loans}
use Rattle.rules.specs.Calls.{section_of, Call, opens}
use Rattle.rules.specs.Calls.{closes, messages, open_call, framing, handled, message_call, ticked, call, after, named, fresh}
use Rattle.rules.specs.Follows.Sound.{Wired, Sound}
use Rattle.rules.proofs.Tests.{by, eqb_same}
use Rattle.rules.proofs.All.{All}
use Rattle.rules.proofs.Cases as rules
use Rattle.rules.proofs.Fitted.{records_of}
use Rattle.rules.proofs.Recall.{by-recall}
use Rattle.rules.proofs.Sound.{sound-call, sound-fresh, sound-found}
use Rattle.demands.specs.History.{Event, reply_of, history}
use Rattle.demands.specs.Told.{FromFresh, number_of}
use Rattle.demands.specs.Kept.{is_initialising, initialises, changes, left, changed, kept_behind, kept_told, AsksConfig, AsksAlive}
use Rattle.demands.specs.Kept.{Ready, state_in}
use Rattle.demands.proofs.Refusals.{a-number}
use Rattle.demands.proofs.Room.{from-sound, ready-open}
use Rattle.std.specs.Prelude.{Err, Ok, Result}
use Rattle.rules.specs.declared.Header.{Header}
use Rattle.rules.specs.declared.Refusal.{Refusal}
use Rattle.rules.specs.Calls.{headed}

-- ## One call

-- an answer of more than one record initialises nobody
more-than-one : (r : Record) (rs : List Record) → is_initialising r ≡ false → initialises (r ∷ rs) ≡ false
unfolding initialises
more-than-one r [] e = e
more-than-one r (t ∷ rs) e = refl

last_of : (rs : List Record) (r : Record) → is_initialising r ≡ false → initialises (rs ++ (r ∷ [])) ≡ false
unfolding initialises
last_of [] r e = e
last_of (t ∷ []) r e = refl
last_of (t ∷ u ∷ rs) r e = refl

abbrev kept_answer : ℕ → Call → Answer → List ℕ → List ℕ
kept_answer c k (refused n) h = h
kept_answer c k (good consumed rs) h = cond (changes c k rs) (left k) h

module _ (c : ℕ) (s : Splicer) (keeping : length s.hardware ≡ 4) where
  abbrev Keeps : Call → Called → Type 0
  Keeps k r = kept_answer c k r.answer (hardware_of c s) ≡ hardware_of c r.splicer

  -- connection d has x then
  own-set : (d : ℕ) (x : List ℕ) → d ≤ 3 → cond (eqb c d) x (hardware_of c s) ≡ get_or (set s.hardware d x) c no_hardware
  own-set d x low = go (eqb c d) refl
    where
      go : (b : Bool) → eqb c d ≡ b → cond b x (hardware_of c s) ≡ get_or (set s.hardware d x) c no_hardware
      go true e = rw (eqb-true c d e) (sym (get_or-set_same s.hardware d x no_hardware (omega arith)))
      go false e = sym (get_or-set_other s.hardware d c x no_hardware (eqb-false c d e))

  named-keeps : (d r : ℕ) (x : List ℕ) → d ≤ 3
      → cond (eqb r 100 && eqb c d) x (hardware_of c s) ≡ hardware_of c (cond (eqb r 100) (initialised d x s) s)
  named-keeps d r x low = go (eqb r 100)
    where
      go : (b : Bool) → cond (b && eqb c d) x (hardware_of c s) ≡ hardware_of c (cond b (initialised d x s) s)
      go true = own-set d x low
      go false = refl

  message-keeps : (d : ℕ) (l : List ℕ) (loans : Loans) → d ≤ 3 → rules.Answering d l (section_of loans s) s (rules.Handles Keeps d l loans)
  unfolding changes left initialises is_initialising alive_response config_response and_then accepted
  message-keeps d l loans low =
      record {
        silent = λ e. refl;
        general = λ r b. refl;
        naming = λ r b e g. named-keeps d r (hardware_in (data_in l)) low;
        alive = λ e. refl;
        telling = λ e. refl;
        recalling = λ x e i. by-recall (λ (r : Record). rules.Handles Keeps d l loans (says (r ∷ []) s)) d x s.queue (λ k. refl) refl;
        unknown = λ x e i. refl;
        aborting = λ x e i held. rw (more-than-one (AbortResponse d 100 x) (aborted d x s.queue).written refl);
        declining = λ r v e i b n. refl;
        accepting = λ r e i p. let new = requested d r s.queue in rw
            (last_of (evicted new.start.0 s.queue).written (accepts new) refl);
      }

  brings-keeps : (k : Call) (until : ℕ) → rules.Brings k until → Keeps k (ticked until s)
  unfolding changes ticked
  brings-keeps k until (rules.tick seconds micros room m) = refl
  brings-keeps k until (rules.move t room) = refl

  call-keeps : (k : Call) → Keeps k (call k s)
  unfolding changes left
  call-keeps =
      rules.cases s Keeps
      (record {
        refusing = λ k n. refl;
        opening = λ d low e. refl;
        closing = λ d room low e. own-set d no_hardware low;
        answering = λ d l loans low e short. message-keeps d l loans low;
        bringing = λ k until b le. brings-keeps k until b;
        cueing = λ l pts seconds micros room g. refl;
      })

-- by the answer's bytes
kept-reply : (c : ℕ) (k : Call) (a : Answer) (h : List ℕ) → records_in (written_by a) ≡ records_of a
    → cond (changed c k (reply_of a)) (left k) h ≡ kept_answer c k a h
unfolding changed written_by
kept-reply c k (refused n) h e = refl
kept-reply c k (good consumed rs) h e = ap (λ l. cond (changes c k l) (left k) h) e

call_kept : (c : ℕ) (s : Splicer) (k : Call) → Wired k → Sound s
    → cond (changed c k (reply_of (call k s).answer)) (left k) (hardware_of c s) ≡ hardware_of c (call k s).splicer
call_kept c s k w h = kept-reply c k (call k s).answer (hardware_of c s) (sound-found s k w h) ∙ call-keeps c s h.linking.keeping k

-- "Nothing but a good Init and a good close changes a kept structure"
pub nothing-else-changes : (h : List Event) (s : Splicer) → FromFresh h s → (k : Call) → Wired k → (c : ℕ)
    → changed c k (reply_of (call k s).answer) ≡ false
    → hardware_of c (call k s).splicer ≡ hardware_of c s
nothing-else-changes h s f k w c e =
    sym (call_kept c s k w (from-sound h s f)) ∙ ap (λ (b : Bool). cond b (left k) (hardware_of c s)) e

-- "close forgets it"
pub close-forgets : (h : List Event) (s : Splicer) → FromFresh h s → (c room : ℕ) → number_of (call (closes c room) s).answer ≡ 0
    → hardware_of c (call (closes c room) s).splicer ≡ no_hardware
unfolding number_of changes left
close-forgets h s f c room z =
    sym (call-keeps c s (from-sound h s f).linking.keeping (closes c room)) ∙ go (call (closes c room) s).answer z
  where
    go : (a : Answer) → number_of a ≡ 0 → kept_answer c (closes c room) a (hardware_of c s) ≡ no_hardware
    go (refused n) e = absurd (omega (arith, a-number n))
    go (good consumed rs) e = rw (eqb_same c)

-- ## Every sequence of calls

kept-after : (c : ℕ) (ks : List Call) (s : Splicer) → All Wired ks → Sound s
    → kept_behind c (history ks s) (hardware_of c s) ≡ hardware_of c (after ks s)
unfolding kept_behind history after
kept-after c [] s a h = refl
kept-after c (k ∷ ks) s a h =
    ap (kept_behind c (history ks (call k s).splicer)) (call_kept c s k a.0 h)
    ∙ kept-after c ks (call k s).splicer a.1 (sound-call s k a.0 h)

bare : (name : List ℕ) (c : ℕ) → no_hardware ≡ hardware_of c (fresh name).splicer
unfolding fresh named
bare name c = by (λ (r : Called). no_hardware ≡ hardware_of c r.splicer) (has_zero name) _ _ (λ e. none c) (λ e. none c)
  where
    none : (c : ℕ) → no_hardware ≡ get_or (no_hardware ∷ no_hardware ∷ no_hardware ∷ no_hardware ∷ []) c no_hardware
    none zero = refl
    none (suc zero) = refl
    none (suc (suc zero)) = refl
    none (suc (suc (suc zero))) = refl
    none (suc (suc (suc (suc c)))) = refl

-- what is kept is what calls and answers' bytes tell
pub kept-told : (h : List Event) (s : Splicer) → FromFresh h s → (c : ℕ) → kept_told c h ≡ hardware_of c s
unfolding kept_told
kept-told h s f c =
    let first = (fresh f.name).splicer in
    rw (f.heard, f.same)
    (ap (kept_behind c (history f.calls first)) (bare f.name c)
    ∙ kept-after c f.calls first f.wired (sound-fresh f.name f.whole f.bytes))

-- ## GetConfig

-- a framed message is there
abbrev Framing-long : List ℕ → Result Header Refusal → Type 0
Framing-long l (Err n) = Unit {0}
Framing-long l (Ok h) = 8 + h.size ≤ length l

framed-long : (l : List ℕ) (id size : ℕ) → framing l ≡ Ok (headed id size) → 8 + size ≤ length l
unfolding framing
framed-long l id size e =
    subst (Framing-long l) e
    (by (Framing-long l) (ltb (length l) 8) _ _ (λ i. tt)
    (λ i. by (Framing-long l) (oversize l) _ _ (λ j. tt)
    (λ j. by (Framing-long l) (ltb (length l) (8 + message_size l)) _ _ (λ k. tt) (λ k. ltb-false (length l) (8 + message_size l) k))))

module _ (c : ℕ) (l : List ℕ) (loans : Loans) (s : Splicer) where
  config-call : AsksConfig c l loans s → Ready c s → call (messages c l loans) s
      ≡ replies 8 (says (config_response c (section_of loans s) s ∷ []) s)
  unfolding call message_call handled answer answer_read read read_config
  config-call a r = rw (a.low, a.roomy, ready-open (link_of c s) r, a.sections, a.framed, r)

  pub denied-call : AsksConfig c l loans s → link_of c s ≡ Opened → call (messages c l loans) s ≡ replies 8 (says (General c 103 ∷ []) s)
  unfolding call message_call handled answer
  denied-call a r = rw (a.low, a.roomy, r, a.sections, a.framed, r)

  pub alive-call : AsksAlive c l loans s → Ready c s → call (messages c l loans) s ≡ replies 16 (says (alive_response c s ∷ []) s)
  unfolding call message_call handled answer answer_read read read_alive
  alive-call a r =
      let n : eqb (length (data_of 8 l)) 8 ≡ true =
      eq-eqb (length (data_of 8 l)) 8 (length-take-le 8 (drop 8 l)
      (omega (arith, length-drop 8 l, framed-long l alive_request 8 a.framed))) in
      rw (a.low, a.roomy, ready-open (link_of c s) r, a.sections, a.framed, r, n)

-- the answer to a GetConfig_Request is that one record
pub config-told : (h : List Event) (s : Splicer) → FromFresh h s → (c : ℕ) (l : List ℕ) (loans : Loans) → AsksConfig c l loans s → Ready c s
    → records_in (written_by (call (messages c l loans) s).answer) ≡ ConfigResponse c 100 s.name (kept_told c h) (section_of loans s) ∷ []
unfolding config_response
config-told h s f c l loans a r =
    sound-found s (messages c l loans) a.bytes (from-sound h s f)
    ∙ ap (λ (x : Called). records_of x.answer) (config-call c l loans s a r)
    ∙ ap (λ (x : List ℕ). ConfigResponse c 100 s.name x (section_of loans s) ∷ []) (sym (kept-told h s f c))

-- its section is the insertion's exactly where an Alive_Request in its place, lent whatever, is answered with State 2
pub section-told : (h : List Event) (s : Splicer) → FromFresh h s → (c : ℕ) (l : List ℕ) (loans other : Loans) → AsksAlive c l other s
    → Ready c s
    → section_of loans s ≡ cond (eqb (state_in (records_in (written_by (call (messages c l other) s).answer))) 2) loans.insertion
    loans.primary
unfolding state_in alive_response air_feed air_state
section-told h s f c l loans other a r =
    by_state s.queue.started
    ∙ sym (ap (λ (x : List Record). cond (eqb (state_in x) 2) loans.insertion loans.primary)
    (sound-found s (messages c l other) a.bytes (from-sound h s f) ∙ ap (λ (x : Called). records_of x.answer)
    (alive-call c l other s a r)))
  where
    by_state : (k : List Session) → cond (eqb (air_feed k) 0) loans.primary loans.insertion
        ≡ cond (eqb (air_state k) 2) loans.insertion loans.primary
    by_state [] = refl
    by_state (x ∷ k) = refl

-- "Opening leaves the connection not initialised": a GetConfig_Request then gets 103
pub opened-denied : (h : List Event) (s : Splicer) → FromFresh h s → (c : ℕ) → number_of (call (opens c) s).answer ≡ 0
    → (l : List ℕ) (loans : Loans) → let t = (call (opens c) s).splicer in AsksConfig c l loans t
    → records_in (written_by (call (messages c l loans) t).answer) ≡ General c 103 ∷ []
unfolding call open_call number_of
opened-denied h s f c z l loans a =
    sound-found t (messages c l loans) a.bytes (sound-call s (opens c) tt (from-sound h s f))
    ∙ ap (λ (x : Called). records_of x.answer) (denied-call c l loans t a is_open_lem)
  where
    t : Splicer
    t = (call (opens c) s).splicer

    is_open_lem : link_of c t ≡ Opened
    is_open_lem = go (no_connection c) (is_open (link_of c s)) refl z
      where
        go : (x y : Bool) → no_connection c ≡ x → number_of (cond x (refuse NoConnection s)
            (cond y (refuse AlreadyOpen s) (does 0 [] (with_link c Opened s)))).answer ≡ 0
            → link_of c (cond x (refuse NoConnection s) (cond y (refuse AlreadyOpen s) (does 0 [] (with_link c Opened s)))).splicer ≡ Opened
        go true y e n = absurd (omega (arith, a-number NoConnection))
        go false true e n = absurd (omega (arith, a-number AlreadyOpen))
        go false false e n = get_or-set_same s.links c Opened Closed (omega (arith, (from-sound h s f).linking.four, ltb-false 3 c e))
