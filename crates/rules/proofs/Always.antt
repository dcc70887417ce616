-- A fact that open, Init, close, abort, acceptance and tick keep holds after every sequence of calls. Assumes nothing.
-- The calls' choices are walked in Cases.
use mathlib.Core.Path.{◌≡◌, refl}
use mathlib.Core.Bool.{true, false}
use mathlib.Core.List.{List, [], ◌∷◌}
use Prim.Native.Nat.{ℕ, ◌≤◌}
use lib.Dec.{eqb}
use Rattle.rules.specs.declared.Link.TheVariants.{Opened}
use Rattle.rules.specs.declared.Request.{Request}
use Rattle.rules.specs.declared.Message.TheVariants.{Splice}
use Rattle.rules.specs.Bytes.{part, has_zero, message_size}
use Rattle.rules.specs.Reading.{bad_init}
use Rattle.rules.specs.Request.{read_splice}
use Rattle.rules.specs.Follows.ReadBack.{data_in}
use Rattle.rules.specs.Hardware.{hardware_in}
use Rattle.rules.specs.State.{Queue, Splicer, holds, link_of, is_open, with_queue, with_link, with_clock}
use Rattle.rules.specs.Recent.{none_held}
use Rattle.rules.specs.Ends.{and_then, aborted, closed_by}
use Rattle.rules.specs.Instants.{run_all, silent_all}
use Rattle.rules.specs.Answers.{initialised}
use Rattle.rules.specs.Splicing.{requested, accepted}
use Rattle.rules.specs.HouseNumbers.{Called, Loans}
use Rattle.rules.specs.Calls.{section_of, shut, ticked, Call, messages, call, after, named, fresh}
use Rattle.rules.proofs.Tests.{by}
use Rattle.rules.proofs.Cases.{Brings, Answering, cases}
use Rattle.rules.proofs.All.{All}
use Rattle.rules.proofs.Bytes.{part-byte}
use Rattle.rules.proofs.Every.{all_any}
use Rattle.rules.proofs.Checks.{Passed, Granted, granted, Fitting, fitting}
pub use Rattle.rules.specs.Follows.Sound.{Wired}
use Rattle.std.specs.Prelude.{Some}

-- any call
abbrev pub Any : Call → Type 0
Any k = Unit {0}

pub any-calls : (ks : List Call) → All Any ks
any-calls ks = all_any Any (λ k. tt) ks

-- the splicer s accepts the request r of connection c, read from a message of which F holds
pub record Admitted (F : Call → Type 0) (s : Splicer) (c : ℕ) (r : Request) : Type 0 where
  pub low : c ≤ 3
  pub linked : is_open (link_of c s) ≡ true
  pub passed : Passed s.clock c r s.queue
  pub bytes : List ℕ
  pub size : ℕ
  pub loans : Loans
  pub given : F (messages c bytes loans)
  pub is_read : read_splice (part 8 size bytes) ≡ Some (Splice r)

module _ {F : Call → Type 0} {s : Splicer} {c : ℕ} {r : Request} where
  pub grants : Admitted F s c r → Granted r
  grants a = granted (part 8 a.size a.bytes) r a.is_read

pub fits : {s : Splicer} {c : ℕ} {r : Request} → Admitted Wired s c r → Fitting r
fits {r = r} a = fitting (part 8 a.size a.bytes) r a.is_read (part-byte 8 a.size a.bytes a.given.0)

-- connection c's Init_Request with the Hardware_Config h was read, from a message of which F holds
pub record Named (F : Call → Type 0) (c : ℕ) (h : List ℕ) : Type 0 where
  pub low : c ≤ 3
  pub bytes : List ℕ
  pub loans : Loans
  pub given : F (messages c bytes loans)
  pub good : bad_init (data_in bytes) ≡ false
  pub same : h ≡ hardware_in (data_in bytes)

-- ## What has to be shown of a fact P

pub record Kept (F : Call → Type 0) (P : Splicer → Type 0) : Type 0 where
  pub opening : (s : Splicer) (c : ℕ) → c ≤ 3 → is_open (link_of c s) ≡ false → P s → P (with_link c Opened s)
  pub naming : (s : Splicer) (c : ℕ) (h : List ℕ) → Named F c h → is_open (link_of c s) ≡ true → P s → P (initialised c h s)
  pub closing : (s : Splicer) (c : ℕ) → c ≤ 3 → is_open (link_of c s) ≡ true → P s → P (shut c (with_queue (closed_by c s.queue).queue s))
  pub aborting : (s : Splicer) (c x : ℕ) → c ≤ 3 → is_open (link_of c s) ≡ true → holds c x s.queue ≡ true → P s
      → P (with_queue (aborted c x s.queue).queue s)
  pub accepting : (s : Splicer) (c : ℕ) (r : Request) → Admitted F s c r → P s
      → P (with_queue (accepted (requested c r s.queue) s.queue).queue s)
  pub ticking : (s : Splicer) (k : Call) (until : ℕ) → F k → Brings k until → s.clock ≤ until → P s
      → P (with_clock until (silent_all s.clock until s.queue) (with_queue (run_all s.clock until s.queue).queue s))

-- a fact of clock and queue: connections play no part
pub record KeptHeld (F : Call → Type 0) (J : ℕ → Queue → Type 0) : Type 0 where
  pub closing : (now : ℕ) (q : Queue) (c : ℕ) → J now q → J now (closed_by c q).queue
  pub aborting : (now : ℕ) (q : Queue) (c x : ℕ) → holds c x q ≡ true → J now q → J now (aborted c x q).queue
  pub accepting : (s : Splicer) (c : ℕ) (r : Request) → Admitted F s c r → J s.clock s.queue
      → J s.clock (accepted (requested c r s.queue) s.queue).queue
  pub ticking : (now until : ℕ) (q : Queue) → now ≤ until → J now q → J until (run_all now until q).queue

pub held_kept : {F : Call → Type 0} (J : ℕ → Queue → Type 0) → KeptHeld F J → Kept F (λ s. J s.clock s.queue)
held_kept J k =
    record {
      opening = λ s c l e h. h;
      naming = λ s c x n e h. h;
      closing = λ s c l e h. k.closing s.clock s.queue c h;
      aborting = λ s c x l e a h. k.aborting s.clock s.queue c x a h;
      accepting = λ s c r a h. k.accepting s c r a h;
      ticking = λ s j until f b le h. k.ticking s.clock until s.queue le h;
    }

-- ## The calls

module _ (F : Call → Type 0) (P : Splicer → Type 0) (k : Kept F P) where
  -- only what is done to the splicer counts
  message-kept : (s : Splicer) → P s → (c : ℕ) (l : List ℕ) (loans : Loans) → c ≤ 3 → is_open (link_of c s) ≡ true
      → Answering c l (section_of loans s) s (λ a. F (messages c l loans) → P a.splicer)
  unfolding and_then
  message-kept s h c l loans low up =
      record {
        silent = λ e f. h;
        general = λ r b f. h;
        naming = λ r b e g f. by P (eqb r 100) _ _ (λ i. k.naming s c (hardware_in (data_in l))
            (record { low = low; bytes = l; loans = loans; given = f; good = g; same = refl }) up h) (λ i. h);
        alive = λ e f. h;
        telling = λ e f. h;
        unknown = λ x e i f. h;
        aborting = λ x e i held f. k.aborting s c x low up held h;
        recalling = λ x e i f. h;
        declining = λ r v e i b n f. h;
        accepting = λ r e i p f. k.accepting s c r (record {
          low = low;
          linked = up;
          passed = p;
          bytes = l;
          size = message_size l;
          loans =
              loans;
          given = f;
          is_read = i;
        }) h;
      }

  pub call_kept : (s : Splicer) (j : Call) → F j → P s → P (call j s).splicer
  unfolding ticked
  call_kept s j f h =
      cases s (λ j r. F j → P r.splicer)
      (record {
        refusing = λ j n f. h;
        opening = λ c low e f. k.opening s c low e h;
        closing = λ c room low e f. k.closing s c low e h;
        answering = λ c l loans low up short. message-kept s h c l loans low up;
        bringing = λ j until b le f. k.ticking s j until f b le h;
        cueing = λ l pts seconds micros room g f. h;
      }) j f

  pub always : (ks : List Call) (s : Splicer) → All F ks → P s → P (after ks s)
  unfolding after
  always [] s f h = h
  always (j ∷ ks) s f h = always ks (call j s).splicer f.1 (call_kept s j f.0 h)

-- a fact of clock and queue, from fresh, with any name and any calls
pub held-always : (J : ℕ → Queue → Type 0) → KeptHeld Any J → J 0 none_held → (ks : List Call) (name : List ℕ)
    → J (after ks (fresh name).splicer).clock (after ks (fresh name).splicer).queue
unfolding fresh named
held-always J k none ks name = always Any (λ s. J s.clock s.queue) (held_kept J k) ks (fresh name).splicer (any-calls ks) first
  where
    first : J (fresh name).splicer.clock (fresh name).splicer.queue
    first = by (λ (r : Called). J r.splicer.clock r.splicer.queue) (has_zero name) _ _ (λ e. none) (λ e. none)
