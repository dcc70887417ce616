-- The present message: GetConfig's record behind the others' answers, a refusal, and the whole answer. Rests on what `recall_pass` promises
-- of a
-- message that is heard, and on Calls.
use mathlib.Core.Path.{◌≡◌, refl, sym, subst, ap, ap₂, ◌∙◌}
use mathlib.Core.Bool.{Bool, true, false, cond}
use mathlib.Core.List.{List, [], ◌∷◌}
use Prim.Native.Nat.{ℕ, ◌+◌, ◌≤◌, ◌<◌}
use native.Mathlib.Omega.{arith}
use lib.Dec.{ltb}
use lib.ListN.{length, get_or}
use borrow.Author.Tests.{ltb-false, lt-ltb, le-ltb}
use Rattle.rules.specs.declared.Refusal.{Refusal}
use Rattle.std.specs.Prelude.{Result, Ok, Err}
use Rattle.rules.specs.declared.Header.{Header}
use Rattle.rules.specs.Lists.{All}
use Rattle.rules.specs.Follows.Wires.{Byte}
use Rattle.rules.specs.Bytes.{part, data_of, message_size, largest_size, oversize}
use Rattle.rules.specs.Card.{card_name, card_loans}
use Rattle.rules.specs.State.{no_hardware}
use Rattle.rules.specs.Records.{Record, ConfigResponse, output}
use Rattle.rules.specs.HouseNumbers.{Loans, lending_maps, longest_section, long_section, buffer_after, written_by}
use Rattle.rules.specs.Calls.{framing, Call, messages}
use Rattle.rules.proofs.Tests.{or-none, by}
use Rattle.rules.proofs.Written.{written_none}
use Rattle.recall_log.specs.declared.Refused.TheVariants.{Rule}
use Rattle.recall_log.specs.Log.{kept_calls, full}
use Rattle.recall_log.specs.Kept.{kept_form, reply_of, appended, log_after}
use Rattle.recall_rules.specs.Calls.{Pass, Answered, section_of, answer, config_response, handled, message_call, call, begun, passed}
use Rattle.recall_ends.specs.Does.{Tells}
use Rattle.recall_answers.specs.declared.Carried.{Carried}
use Rattle.recall_answers.specs.declared.Effect.{Effect}
use Rattle.recall_answers.specs.declared.Effect.TheVariants.{Nothing, Joins, Enters, Configures}
use Rattle.recall_answers.specs.Replies.{hardwares, spoken, Left}
use Rattle.recall_pass.specs.declared.Heard.{Heard}
use Rattle.recall_pass.specs.Passes.{rows_of, pass_in, framed, FramesAny, HearsAny, Passed}
use Rattle.recall_pass.proofs.Messages.{message-is, framed-low, framed-size}
use Rattle.recall.specs.Recall.{Remembers}
use Rattle.recall.specs.Finish.{Finishes}
use Rattle.recall.proofs.Calls.{remembers}

-- ## GetConfig's record

-- every answer but GetConfig's stands there already
all-spoken : (x : Effect) (rs : List Record) → (x ≡ Configures → ⊥) → spoken x rs ≡ rs
unfolding spoken
all-spoken Nothing rs k = refl
all-spoken (Joins s) rs k = refl
all-spoken Enters rs k = refl
all-spoken Configures rs k = absurd (k refl)

pub finish-none : (l : List ℕ) (h : Carried) (c : ℕ) (section : List ℕ) (g : Heard) (i : List ℕ)
    → (g.effect ≡ Configures → ⊥) → Finishes l h c section g i g.len i
finish-none l h c section g i k d a s e n w f t = subst (λ (rs : List Record). Tells e 0 rs g.len i)
    (all-spoken g.effect a.written k) t

pub finish-config : (l : List ℕ) (h : Carried) (c : ℕ) (section : List ℕ) (g : Heard) (i : List ℕ) {len : ℕ} {o : List ℕ}
    → g.effect ≡ Configures
    → Tells i 0 (ConfigResponse c 100 card_name (get_or (hardwares l h) c no_hardware) section ∷ []) len o
    → Finishes l h c section g i len o
unfolding spoken config_response output
finish-config l h c section g i {len} {o} k y d a s e n w f t =
    let b : a.written ≡ config_response c section s ∷ [] = subst (λ (x : Effect). Left x c d section s a.written) k f in
    let z : i ≡ e = (subst (λ (x : Effect). Tells e 0 (spoken x a.written) g.len i) k t).bytes ∙ written_none e 0 in
    let r : ConfigResponse c 100 card_name (get_or (hardwares l h) c no_hardware) section ∷ [] ≡ a.written =
    ap₂ (λ (m : List ℕ) (x : List (List ℕ)). ConfigResponse c 100 m (get_or x c no_hardware) section ∷ []) (sym n) (sym w) ∙ sym b in
    subst (λ (j : List ℕ). Tells j 0 a.written len o) z (subst (λ (rs : List Record). Tells i 0 rs len o) r y)

-- ## The sections

-- 10: "a lent section over 1,024 bytes"
pub both-short : (p q : List ℕ) → long_section (lending_maps p q 0) ≡ false → (length p ≤ longest_section) × (length q ≤ longest_section)
both-short p q e =
    let n = or-none (ltb longest_section (length p)) (ltb longest_section (length q)) e in
    (ltb-false longest_section (length p) n.0, ltb-false longest_section (length q) n.1)

pub long-first : (p q : List ℕ) → longest_section < length p → ltb longest_section (length p) ≡ long_section (lending_maps p q 0)
long-first p q h = rw (lt-ltb longest_section (length p) h)

pub long-second : (p q : List ℕ) → length p ≤ longest_section → ltb longest_section (length q) ≡ long_section (lending_maps p q 0)
long-second p q h = rw (le-ltb longest_section (length p) h)

-- what `map_on_air` gives: one of the two
pub chosen : {A B : Type 0} (f : A → B) (b : Bool) (x y : A) → f (cond b x y) ≡ cond b (f x) (f y)
chosen f true x y = refl
chosen f false x y = refl

pub brief : (b : Bool) (p q : List ℕ) → length p ≤ longest_section → length q ≤ longest_section → length (cond b p q) ≤ longest_section
brief true p q h k = h
brief false p q h k = k

-- ## The call

-- the test's answer f, behind all calls of the log
pub framed-here : {l : List ℕ} {h : Carried} {m : List ℕ} → Passed l h m
    → (c : ℕ) (read : List ℕ) (loans : Loans) {f g : Result Header Refusal} {b : Bool}
    → FramesAny c read loans.room b h f → b ≡ long_section loans → f ≡ g
    → g ≡ framed c read loans.room (long_section loans) (pass_in l h m)
framed-here {l} {h} {m} p c read loans a e z =
    sym z ∙ a (hardwares l h) (rows_of h m) ∙ ap (λ (b : Bool). framed c read loans.room b (pass_in l h m)) e

-- of a message that is framed
abbrev Whole : List ℕ → Result Header Refusal → Type 0
Whole l (Ok x) = (8 + x.size ≤ length l) × (x.size ≤ largest_size)
Whole l (Err n) = Unit {0}

whole : (l : List ℕ) → Whole l (framing l)
unfolding framing
whole l =
    by (Whole l) (ltb (length l) 8) _ _ (λ e. tt)
    (λ e. by (Whole l) (oversize l) _ _ (λ f. tt)
    (λ f. by (Whole l) (ltb (length l) (8 + message_size l)) _ _ (λ g. tt)
    (λ g. (ltb-false (length l) (8 + message_size l) g, ltb-false largest_size (message_size l) f))))

module _ (l : List ℕ) (b : All Byte l) (f : full l ≡ false) {h : Carried} {m : List ℕ} (p : Passed l h m) (c : ℕ) (read : List ℕ)
    (loans : Loans) where
  abbrev s : Pass
  s = pass_in l h m

  abbrev k : Call
  k = messages c read loans

  -- what the framing makes of it
  made : {g : Result Header Refusal} → g ≡ framed c read loans.room (long_section loans) s
      → handled c g read loans s ≡ call k (passed (kept_calls l) (begun card_name))
  unfolding call
  made {g} e = ap (λ (x : Result Header Refusal). handled c x read loans s) e ∙ sym (message-is c read loans s)
      ∙ ap (message_call c read loans) p.pass

  pub message-refused : {n : Refusal} {e : List ℕ} → Err n ≡ framed c read loans.room (long_section loans) s
      → Remembers k l e (Err (Rule n)) l e
  unfolding handled reply_of log_after buffer_after written_by
  message-refused {n} {e} g = remembers k l b f (made g) refl refl (sym (written_none e 0))

  -- a whole message, whose answer a was given
  module _ {head : Header} (g : Ok head ≡ framed c read loans.room (long_section loans) s) where
    pub message-low : (c ≤ 3) × (4096 ≤ loans.room) × (long_section loans ≡ false) × (framing read ≡ Ok head)
    message-low = framed-low c read loans.room (long_section loans) s (sym g)

    pub message-size : head.size ≡ message_size read
    message-size = framed-size read message-low.3

    pub message-done : {moved len : ℕ} {n e o : List ℕ}
        → Tells e 0 (answer c head.id (data_of head.size read) (section_of loans s) s).written len o
        → moved ≡ (answer c head.id (data_of head.size read) (section_of loans s) s).moved
        → n ≡ appended (messages c (part 0 (8 + head.size) read) card_loans) l
        → Remembers k l e (Ok (record { consumed = 8 + head.size; written = len; moved = moved })) n o
    unfolding handled reply_of log_after buffer_after written_by kept_form
    message-done {moved} {len} {n} {e} {o} t q x =
        remembers k l b f (made g) (ap₂ (λ (i j : ℕ). Ok (record { consumed = 8 + head.size; written = i; moved = j }))
        (omega (arith, t.count)) q)
        (x ∙ ap (λ (i : ℕ). appended (messages c (part 0 (8 + i) read) card_loans) l) message-size) t.bytes

    pub message-within : (8 + head.size ≤ length read) × (head.size ≤ largest_size)
    message-within = subst (Whole read) message-low.3 (whole read)

    -- y: the data that was handed on; x: the section that was chosen
    pub message-whole : {y x e i j o n : List ℕ} {w : Heard} {len : ℕ} → y ≡ data_of head.size read → x ≡ section_of loans s
        → HearsAny c head.id y h m e w j i
        → Finishes l h c x w i len o → n ≡ appended (messages c (part 0 (8 + head.size) read) card_loans) l
        → Remembers k l e (Ok (record { consumed = 8 + head.size; written = len; moved = w.moved })) n o
    message-whole {y} {x} {e} {i} {j} {o} {n} {w} {len} z t a v q =
        let b = a (hardwares l h) x in
        let r : answer c head.id y x s ≡ answer c head.id (data_of head.size read) (section_of loans s) s =
        ap₂ (λ (u v : List ℕ). answer c head.id u v s) z t in
        message-done
        (subst (λ (u : Answered). Tells e 0 u.written len o) r (v y (answer c head.id y x s) s e refl refl b.left b.tells))
        (b.moved ∙ ap (λ (u : Answered). u.moved) r) q
