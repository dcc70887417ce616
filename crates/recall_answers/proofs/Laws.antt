-- What each part of an answer says of its own paths, and what the parts' promises make of the whole.
-- Rests on recall_ends' laws of what is told, and on rules' laws of names and of records' lengths.
use mathlib.Core.Path.{◌≡◌, refl, sym, ap, ap₂, subst, ◌∙◌}
use mathlib.Core.Bool.{Bool, true, false, cond, not}
use mathlib.Core.List.{List, map}
use Prim.Native.Nat.{ℕ, ◌≤◌}
use native.Mathlib.Omega.{arith}
use lib.Dec.{eqb}
use lib.ListN.{length, get_or, get_or-map}
use borrow.Author.Tests.{eq-eqb, ne_eqb}
use Rattle.std.specs.Prelude.{Option, None, Some}
use Rattle.std.proofs.lemmas.Option.{none-some}
use Rattle.rules.specs.declared.Session.{Session}
use Rattle.rules.specs.declared.Link.{Link}
use Rattle.rules.specs.declared.Link.TheVariants.{Closed, Opened, Initialised}
use Rattle.rules.specs.declared.Request.{Request}
use Rattle.rules.specs.declared.Message.{Message}
use Rattle.rules.specs.Bytes.{name_in, padded, same_name}
use Rattle.rules.specs.Card.{card_name}
use Rattle.rules.specs.Reading.{channel_name, bad_init, is_read, read}
use Rattle.rules.specs.Records.{Record, General, InitResponse}
use Rattle.rules.specs.Answers.{init_result}
use Rattle.rules.proofs.Bytes.{name_in-twice, name_in-padded, length-padded}
use Rattle.rules.proofs.Tests.{by, clash}
use Rattle.writing.specs.Puts.{Puts}
use Rattle.recall_rules.specs.declared.Verdict.{Verdict}
use Rattle.recall_rules.specs.Work.{Turn, Spliced, requested, splice_result, answer_splice}
use Rattle.recall_rules.specs.Calls.{Pass, with_verdicts, says, turns, splices, answer_init, answer_read, answer}
use Rattle.recall_ends.specs.Does.{all, Tells, Turns}
use Rattle.recall_ends.proofs.Laws.{tells_none, tells_first}
use Rattle.recall_requests.specs.declared.Given as checked
use Rattle.recall_requests.specs.Admits as admits
use Rattle.recall_answers.specs.declared.Carried.{Carried}
use Rattle.recall_answers.specs.declared.Effect.TheVariants.{Joins, Enters, Configures}
use Rattle.rules.specs.declared.Message.TheVariants.{Init, Config}
use Rattle.recall_answers.specs.declared.Given.{Given}
use Rattle.recall_answers.specs.Replies.{link_for, pass_of, barred, effected, spoken, Gives, Replies, Reads, Inits, Splices, Says, done}

-- ## What a connection is

module _ {k : ℕ} where
  pub link-opened : k ≡ 1 → Opened ≡ link_for k
  unfolding link_for
  link-opened e = rw (eq-eqb k 1 e)

  module _ (n : k ≡ 1 → ⊥) where
    pub link-initialised : k ≡ 2 → Initialised ≡ link_for k
    unfolding link_for
    link-initialised e = rw (ne_eqb k 1 n, eq-eqb k 2 e)

    pub link-closed : (k ≡ 2 → ⊥) → Closed ≡ link_for k
    unfolding link_for
    link-closed m = rw (ne_eqb k 1 n, ne_eqb k 2 m)

-- ## ChannelName is "CH1"

pub card-short : length card_name ≤ 32
unfolding card_name
card-short = omega arith

module _ {x : List ℕ} (e : x ≡ padded card_name) where
  pub card-name : name_in x ≡ card_name
  unfolding card_name
  card-name = ap name_in e ∙ name_in-padded card_name refl

  pub card-length : length x ≡ 32
  card-length = ap length e ∙ length-padded card_name card-short

  pub card-padded : x ≡ padded (name_in x)
  card-padded = e ∙ ap padded (sym card-name)

-- ## The whole, from a part

-- g: an answer in the pass s that leaves nothing to do
module _ (c : ℕ) (d section : List ℕ) {s : Pass} {e : List ℕ} {g : Given} {n : ℕ} (q : g ≡ done n) where
  -- what is done to the sessions
  pub turned : {t : Turn} {k o : List ℕ} → Turns e 0 t k n o → Gives c d section (turns t s) s e g k o
  unfolding effected spoken
  turned {t} {k} {o} w =
      subst (λ (y : Given). Gives c d section (turns t s) s e y k o) (sym q)
      (record { pass = ap (λ (l : List Verdict). with_verdicts l s) (sym w.holds); tells = w.tells; left = tt; moved = refl })

  -- records, and nothing changes; m: the words of the pass
  pub told : {rs : List Record} {m o : List ℕ} → all m ≡ s.verdicts → Tells e 0 rs n o → Gives c d section (says rs s) s e g m o
  told {rs} v w = turned {t = record { verdicts = s.verdicts; written = rs }} (record { holds = v; tells = w })

-- a General_Response
pub general-told : {c result n : ℕ} {e o : List ℕ} {g : Given} → g ≡ done n → Puts (General c result) e n o →
    (g ≡ done g.len) × Says (General c result) e g.len o
general-told q w = (q ∙ ap (λ (y : Given). done y.len) (sym q), rw (ap (λ (y : Given). y.len) q) (tells_first w))

-- ## Init

module _ (revision : ℕ) (asked name : List ℕ) where
  pub init-revision : (revision ≡ 2 → ⊥) → 102 ≡ init_result revision asked (name_in name)
  unfolding init_result
  init-revision n = rw (ne_eqb revision 2 n)

  -- b: whether the name is the splicer's
  pub init-name : (b n : Bool) → revision ≡ 2 → b ≡ same_name asked name → not b ≡ n →
      cond n 104 100 ≡ init_result revision asked (name_in name)
  unfolding init_result
  init-name b n e f g = rw (eq-eqb revision 2 e, name_in-twice name, ← f, g)

-- r: the result for the name that was asked; x: the splicer's; o: the buffer that held e
module _ (c revision : ℕ) (d e : List ℕ) {r len : ℕ} {asked x : List ℕ} (o : List ℕ)
    (ra : asked ≡ channel_name d) (rx : x ≡ padded card_name) (rr : r ≡ init_result revision asked (name_in x))
    (ro : Puts (InitResponse c r (name_in x)) e len o) where
  init-is : r ≡ init_result revision (channel_name d) card_name
  init-is = rr ∙ ap₂ (init_result revision) ra (card-name rx)

  init-says : Says (InitResponse c (init_result revision (channel_name d) card_name) card_name) e len o
  init-says = subst (λ (y : Record). Says y e len o) (ap₂ (InitResponse c) init-is (card-name rx)) (tells_first ro)

  -- g: what is left of an answer that was said
  module _ {g : Given} (q : g ≡ done len) where
    -- "else 100 and initialised"
    pub init-done : r ≡ 100 → bad_init d ≡ false → Inits c revision d e (record { len = g.len; moved = g.moved; effect = Enters }) o
    unfolding answer_read answer_init effected spoken
    init-done i good h m =
        subst (λ (y : Given). Reads c (Some (Init revision)) d h m e (record { len = y.len; moved = y.moved; effect = Enters }) m o) (sym q)
        (λ hardware section. record { pass = rw (← init-is, eq-eqb r 100 i); tells = init-says; left = good; moved = refl })

    -- "A failed later Init leaves the connection initialised."
    pub init-failed : (r ≡ 100 → ⊥) → Inits c revision d e g o
    unfolding answer_read answer_init effected spoken
    init-failed i h m =
        subst (λ (y : Given). Reads c (Some (Init revision)) d h m e y m o) (sym q)
        (λ hardware section. record { pass = rw (← init-is, ne_eqb r 100 i); tells = init-says; left = tt; moved = refl })

-- ## A message that is read

-- y: the message that was read; x: what it is
pub reads : (c id : ℕ) (d : List ℕ) (h : Carried) (m : List ℕ) {e : List ℕ} {g : Given} {k o : List ℕ} {y x : Option Message} → y
    ≡ read id d
    → y ≡ x →
    Reads c x d h m e g k o → Reads c (read id d) d h m e g k o
reads c id d h m {e} {g} {k} {o} p q r = subst (λ (z : Option Message). Reads c z d h m e g k o) (sym q ∙ p) r

-- 02, CR 6: the configuration is left to who has the log
pub configures : (c : ℕ) (d : List ℕ) (h : Carried) (m : List ℕ) {e : List ℕ} {g : Given} → g ≡ done 0
    → Reads c (Some Config) d h m e (record { len = g.len; moved = g.moved; effect = Configures }) m e
unfolding answer_read effected spoken
configures c d h m {e} q =
    subst (λ (y : Given). Reads c (Some Config) d h m e (record { len = y.len; moved = y.moved; effect = Configures }) m e) (sym q)
    (λ hardware section. record { pass = refl; tells = tells_none; left = refl; moved = refl })

-- ## "first that applies"

bars : (c id : ℕ) (h : Carried) {l : Link} {t v : Bool} → l ≡ link_for (get_or h.links c 0) → t ≡ barred l id → t ≡ v →
    barred (get_or (map link_for h.links) c Closed) id ≡ v
unfolding link_for
bars c id h p q i = ap (λ (y : Link). barred y id) (get_or-map link_for h.links c 0 ∙ sym p) ∙ sym q ∙ i

module _ (c id : ℕ) (d : List ℕ) (h : Carried) (m : List ℕ) {e : List ℕ} {g : Given} where
  -- "1. ID 0x0000: no answer."
  pub first : id ≡ 0x0000 → g ≡ done 0 → Replies c id d h m e g m e
  unfolding answer
  first z q hardware section = rw (eq-eqb id 0x0000 z) (told c d section q refl tells_none)

  -- l: what the connection is; t: whether that bars the message
  module _ (n : id ≡ 0x0000 → ⊥) {l : Link} {t : Bool} (p : l ≡ link_for (get_or h.links c 0)) (q : t ≡ barred l id) where
    -- "2. Not initialised and not Init_Request: General_Response 103."
    pub second : t ≡ true → {o : List ℕ} → (g ≡ done g.len) × Says (General c 103) e g.len o → Replies c id d h m e g m o
    unfolding answer
    second i w hardware section = rw (ne_eqb id 0x0000 n, bars c id h p q i) (told c d section w.0 refl w.1)

    module _ (i : t ≡ false) where
      -- "3. ID 0x000D: no answer."
      pub third : id ≡ 0x000D → g ≡ done 0 → Replies c id d h m e g m e
      unfolding answer
      third z w hardware section =
          rw (ne_eqb id 0x0000 n, bars c id h p q i, eq-eqb id 0x000D z) (told c d section w refl tells_none)

      -- v: whether it is in the list
      module _ (j : id ≡ 0x000D → ⊥) {v : Bool} (r : v ≡ is_read id) {o : List ℕ} where
        -- "4. ID not in the list of four: General_Response 120."
        pub fourth : not v ≡ true → (g ≡ done g.len) × Says (General c 120) e g.len o → Replies c id d h m e g m o
        unfolding answer
        fourth k w hardware section =
            rw (ne_eqb id 0x0000 n, bars c id h p q i, ne_eqb id 0x000D j, ← r, k) (told c d section w.0 refl w.1)

        -- a message of the list
        pub fifth : {k : List ℕ} → not v ≡ false → Reads c (read id d) d h m e g k o → Replies c id d h m e g k o
        unfolding answer
        fifth k w hardware section =
            rw (ne_eqb id 0x0000 n, bars c id h p q i, ne_eqb id 0x000D j, ← r, k) (w hardware section)

-- ## Splice

-- 02, CR 11: "A request not accepted reports 0."
refused-unmoved : (clock c : ℕ) (r : Request) (l : List Verdict) → (answer_splice clock c r l).accepted ≡ false
    → (answer_splice clock c r l).moved ≡ 0
unfolding answer_splice
refused-unmoved clock c r l =
    by (λ (a : Spliced). a.accepted ≡ false → a.moved ≡ 0) (eqb (splice_result clock c r (requested c r l) l) 100) _ _
    (λ t e. absurd (clash true refl e)) (λ t e. refl)

not-some : {A : Type 0} (b : Bool) (x : A) → cond b (Some x) None ≡ None → b ≡ false
not-some true x e = absurd (none-some x (sym e))
not-some false x e = refl

-- a: what was given by the checks
module _ (c : ℕ) (r : Request) (h : Carried) (m : List ℕ) {e : List ℕ} {a : checked.Given} {k o : List ℕ}
    (w : admits.Splices h.clock.0 c r m e a k o) where
  -- the session x waits from now on
  pub splice-joins : {x : Session} → a.accepted ≡ Some x → Splices c r h m e (record { len = a.len; moved = a.moved; effect = Joins x }) k o
  unfolding answer_read effected spoken
  splice-joins t d hardware section =
      record {
        pass = ap (λ (l : List Verdict). with_verdicts l (pass_of hardware h m))
            (sym w.holds ∙ ap (λ (x : Option Session). admits.joined x (all k)) t);
        tells = w.tells;
        left = tt;
        moved = w.moved;
      }

  pub splice-refused : {g : Given} → a.accepted ≡ None → g ≡ done a.len → Splices c r h m e g k o
  unfolding answer_read effected spoken
  splice-refused t q d hardware section =
      subst (λ (y : Given). Gives c d section (splices (answer_splice h.clock.0 c r (all m)) (pass_of hardware h m)) (pass_of hardware h m)
      e y k o) (sym q)
      (record {
        pass = ap (λ (l : List Verdict). with_verdicts l (pass_of hardware h m))
            (sym w.holds ∙ ap (λ (x : Option Session). admits.joined x (all k)) t);
        tells = w.tells;
        left = tt;
        moved = sym (refused-unmoved h.clock.0 c r (all m)
            (not-some (answer_splice h.clock.0 c r (all m)).accepted _ (sym w.accepted ∙ t)));
      })
