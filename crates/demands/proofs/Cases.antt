-- What a call can do: what is shown of each of eleven cases holds of every call. Assumes nothing.
-- By what a call's records tell of sessions; the calls' choices are walked in rules' Cases.
use mathlib.Core.Path.{◌≡◌, refl}
use mathlib.Core.Bool.{Bool, true, false}
use mathlib.Core.List.{List, [], ◌∷◌, map}
use Prim.Native.Nat.{ℕ, ◌+◌, ◌≤◌}
use lib.Dec.{eqb}
use Rattle.rules.specs.declared.Refusal.{Refusal}
use Rattle.rules.specs.declared.Request.{Request}
use Rattle.rules.specs.declared.Message.TheVariants.{Splice}
use Rattle.rules.specs.Units.{time_of, from_micros}
use Rattle.rules.specs.Bytes.{message_size}
use Rattle.rules.specs.Request.{session_id, read_splice}
use Rattle.rules.specs.Hardware.{hardware_in}
use Rattle.rules.specs.Follows.ReadBack.{data_in, is_splice}
use Rattle.rules.specs.declared.Link.TheVariants.{Opened}
use Rattle.rules.specs.State.{Splicer, holds, link_of, is_open, with_queue, with_link}
use Rattle.rules.specs.Records.{Record, General, InitResponse, SpliceResponse, AbortResponse}
use Rattle.rules.specs.Ends.{and_then, aborted, closed_by}
use Rattle.rules.specs.declared.Cue.{Cue}
use Rattle.rules.specs.declared.Cue.TheVariants.{At, Timeless, Silent, Bad}
use Rattle.rules.specs.declared.WireTime.{WireTime}
use Rattle.rules.specs.Lists.{count}
use Rattle.rules.specs.Cues.{read_cue, cue_time, initialised_ones, passed_to, complained_to, cue_records}
use Rattle.rules.specs.Splicing.{requested, grants}
use Rattle.rules.specs.Answers.{splices, alive_response, config_response, extended_response, initialised}
use Rattle.rules.specs.HouseNumbers.{Called, refuse, does, replies, Loans}
use Rattle.rules.specs.Calls.{section_of, shut, ticked, Call, opens, closes, messages, ticks, moves}
use Rattle.rules.specs.Calls.{cues, call}
use Rattle.demands.specs.History.{is_start, is_end, is_yes}
use Rattle.rules.proofs.Tests.{by}
use Rattle.rules.proofs.Checks.{Passed}
use Rattle.rules.proofs.Recall.{by-recall}
use Rattle.rules.proofs.Cases as rules
use Rattle.demands.specs.Told.{is_out}
use Rattle.demands.proofs.Laws.{Plain, plain-none}
use Rattle.std.specs.Prelude.{Some}

-- of no session's start, nor of the end of one that was on air
pub record Offair (r : Record) : Type 0 where
  pub starts : (c x : ℕ) → is_start c x r ≡ false
  pub outs : (c x : ℕ) → is_out c x r ≡ false

-- what has to be shown of a call k to s and what comes of it
pub record Cases (s : Splicer) (P : Call → Called → Type 0) : Type 0 where
  pub refusing : (k : Call) (n : Refusal) → P k (refuse n s)
  pub opening : (c : ℕ) → c ≤ 3 → is_open (link_of c s) ≡ false → P (opens c) (does 0 [] (with_link c Opened s))
  pub closing : (c room : ℕ) → c ≤ 3 → is_open (link_of c s) ≡ true
      → P (closes c room) (does 0 (closed_by c s.queue).written (shut c (with_queue (closed_by c s.queue).queue s)))
  -- an answer, and nothing done
  pub saying : (c : ℕ) (l : List ℕ) (loans : Loans) (n : ℕ) (rs : List Record) → is_splice l ≡ false → Plain rs
      → P (messages c l loans) (does n rs s)
  pub naming : (c : ℕ) (l : List ℕ) (loans : Loans) (n : ℕ) (r : Record) (h : List ℕ) → is_splice l ≡ false → Plain (r ∷ [])
      → P (messages c l loans) (does n (r ∷ []) (initialised c h s))
  pub aborting : (c : ℕ) (l : List ℕ) (loans : Loans) (n x : ℕ) → is_splice l ≡ false → holds c x s.queue ≡ true
      → P (messages c l loans) (does n (AbortResponse c 100 x ∷ (aborted c x s.queue).written)
      (with_queue (aborted c x s.queue).queue s))
  -- a Splice_Request that is not accepted, and one that is
  pub declining : (c : ℕ) (l : List ℕ) (loans : Loans) (n : ℕ) (r : Record) → is_splice l ≡ true
      → is_yes c (session_id (data_in l)) r ≡ false
      → Offair r → P (messages c l loans) (does n (r ∷ []) s)
  pub accepting : (c : ℕ) (l : List ℕ) (loans : Loans) (n : ℕ) (r : Request) → is_splice l ≡ true → read_splice (data_in l)
      ≡ Some (Splice r)
      → Passed s.clock c r s.queue → P (messages c l loans) (replies n (splices (grants (requested c r s.queue) s.queue) s))
  pub ticking : (seconds micros room : ℕ) → s.clock ≤ (from_micros (time_of seconds micros)).0
      → P (ticks seconds micros room) (ticked (from_micros (time_of seconds micros)).0 s)
  pub moving : (until room : ℕ) → s.clock ≤ until → P (moves until room) (ticked until s)
  -- 02, CR 7: records of no session, and nothing done
  pub cueing : (l : List ℕ) (pts seconds micros room : ℕ) (rs : List Record) → Plain rs → P (cues l pts seconds micros room) (does 0 rs s)

-- records of one kind that none of them passes a test
none_passes : (p : Record → Bool) (f : ℕ → Record) → ((c : ℕ) → p (f c) ≡ false) → (cs : List ℕ) → count p (map f cs) ≡ 0
none_passes p f h [] = refl
none_passes p f h (c ∷ cs) = rw (h c, none_passes p f h cs)

pub plain-cue : (x : Cue) (t : WireTime) (l cs : List ℕ) → Plain (cue_records x t l cs)
unfolding cue_records is_start is_end
plain-cue (At p) t l cs = record {
  starts = λ c x. none_passes (is_start c x) (passed_to t l) (λ d. refl) cs;
  ends =
      λ c x. none_passes (is_end c x) (passed_to t l) (λ d. refl) cs;
}
plain-cue Timeless t l cs = record {
  starts = λ c x. none_passes (is_start c x) (passed_to t l) (λ d. refl) cs;
  ends =
      λ c x. none_passes (is_end c x) (passed_to t l) (λ d. refl) cs;
}
plain-cue Silent t l cs = plain-none
plain-cue Bad t l cs = record {
  starts = λ c x. none_passes (is_start c x) complained_to (λ d. refl) cs;
  ends =
      λ c x. none_passes (is_end c x) complained_to (λ d. refl) cs;
}

module _ (s : Splicer) (P : Call → Called → Type 0) (k : Cases s P) where
  module _ (c : ℕ) (l : List ℕ) (loans : Loans) where
    abbrev n : ℕ
    n = 8 + message_size l

    -- one record that says neither yes nor start nor end
    one : (r : Record) → is_yes c (session_id (data_in l)) r ≡ false → Offair r → Plain (r ∷ [])
        → P (messages c l loans) (does n (r ∷ []) s)
    one r y o p = go (is_splice l) refl
      where
        go : (b : Bool) → is_splice l ≡ b → P (messages c l loans) (does n (r ∷ []) s)
        go true e = k.declining c l loans n r e y o
        go false e = k.saying c l loans n (r ∷ []) e p

    message-case : rules.Answering c l (section_of loans s) s (rules.Handles P c l loans)
    unfolding is_yes is_start is_end is_out alive_response config_response and_then
    message-case =
        record {
          silent = λ e. k.saying c l loans n [] e plain-none;
          general = λ r b. one (General c r) refl (record { starts = λ d x. refl; outs = λ d x. refl })
              (record { starts = λ d x. refl; ends = λ d x. refl });
          naming = λ r b e g. let p : Plain (InitResponse c r s.name ∷ []) = record { starts = λ d x. refl; ends = λ d x. refl } in
              by (λ (z : Splicer). P (messages c l loans) (does n (InitResponse c r s.name ∷ []) z)) (eqb r 100) _ _
              (λ i. k.naming c l loans n (InitResponse c r s.name) (hardware_in (data_in l)) e p)
              (λ i. k.saying c l loans n (InitResponse c r s.name ∷ []) e p);
          alive = λ e. k.saying c l loans n (alive_response c s ∷ []) e (record { starts = λ d x. refl; ends = λ d x. refl });
          telling = λ e. k.saying c l loans n (config_response c (section_of loans s) s ∷ []) e
              (record { starts = λ d x. refl; ends = λ d x. refl });
          unknown = λ x e i. k.saying c l loans n (AbortResponse c 121 x ∷ []) e (record { starts = λ d x. refl; ends = λ d x. refl });
          aborting = λ x e i held. k.aborting c l loans n x e held;
          recalling = λ x e i. k.saying c l loans n (extended_response c x s.queue ∷ []) e
              (by-recall (λ (r : Record). Plain (r ∷ [])) c x s.queue (λ h. record { starts = λ d y. refl; ends = λ d y. refl })
              (record { starts = λ d y. refl; ends = λ d y. refl }));
          declining = λ r v e i b m. k.declining c l loans n (SpliceResponse c v r.id) e (rw m)
              (record { starts = λ d y. refl; outs = λ d y. refl });
          accepting = λ r. k.accepting c l loans n r;
        }

  bring-case : (j : Call) (until : ℕ) → rules.Brings j until → s.clock ≤ until → P j (ticked until s)
  bring-case j until (rules.tick seconds micros room m) le = k.ticking seconds micros room le
  bring-case j until (rules.move t room) le = k.moving t room le

  pub cases : (j : Call) → P j (call j s)
  cases =
      rules.cases s P
      (record {
        refusing = k.refusing;
        opening = k.opening;
        closing = k.closing;
        answering = λ c l loans low e short. message-case c l loans;
        bringing = bring-case;
        cueing = λ l pts seconds micros room g. let x = read_cue l in
            let t = cue_time pts seconds micros x in k.cueing l pts seconds micros room (cue_records x t l (initialised_ones s.links))
            (plain-cue x t l (initialised_ones s.links));
      })
