-- What each part of an answer says of its own paths, and what the parts' promises make of the whole.
-- Rests on ends' laws of what is told, on what memory shows, which determines every word, and on rules' laws of names and of records'
-- lengths.
use mathlib.Core.Path.{◌≡◌, refl, sym, ap, ap₂, subst, ◌∙◌}
use mathlib.Core.Bool.{Bool, true, false, cond, not, ◌&&◌, ◌||◌}
use mathlib.Core.List.{List, [], ◌∷◌}
use Prim.Native.Nat.{ℕ, ◌+◌, ◌≤◌, ◌<◌}
use native.Mathlib.Omega.{arith}
use lib.Dec.{eqb}
use lib.ListN.{length, get_or, set, drop, length-take, length-drop}
use lib.Seq.{length-take-le, take-take}
use borrow.Author.Tests.{eq-eqb, ne_eqb}
use Rattle.rules.specs.declared.Ninths.{Ninths}
use Rattle.rules.specs.declared.Micros.{Micros}
use Rattle.rules.specs.declared.Link.{Link}
use Rattle.rules.specs.declared.Link.TheVariants.{Closed, Opened, Initialised}
use Rattle.std.specs.Prelude.{Option}
use Rattle.rules.specs.declared.Message.{Message}
use Rattle.rules.specs.declared.Session.{Session}
use Rattle.rules.specs.declared.Past.{Past}
use Rattle.rules.specs.Units.{to_micros}
use Rattle.rules.specs.Bytes.{name_in, padded, same_name, value}
use Rattle.rules.specs.Request.{nobody}
use Rattle.rules.specs.Reading.{channel_name, bad_init, is_read}
use Rattle.rules.specs.Hardware.{hardware_place, hardware_length, hardware_in, longest_hardware, length_in}
use Rattle.rules.specs.Reading.{init_request, read}
use Rattle.rules.specs.State.{Queue, Splicer, empty, no_hardware, link_of, is_initialised}
use Rattle.rules.specs.Recent.{is_kept, recent}
use Rattle.rules.specs.Records.{Record, General, InitResponse, AliveResponse, ConfigResponse, ExtendedFound, ExtendedNone}
use Rattle.rules.specs.Ends.{Turn}
use Rattle.rules.specs.Answers.{Answered, says, turns, splices, init_result, initialised, answer_init, air_state, air_id}
use Rattle.rules.specs.Splicing.{Spliced}
use Rattle.rules.specs.Answers.{alive_response, config_response, latest, extended_response, answer_read, answer}
use Rattle.rules.proofs.Tests.{clash, or-none, and_both, both-and}
use Rattle.rules.proofs.Bytes.{name_in-twice}
use Rattle.reading.proofs.Laws.{hardware-fits}
use Rattle.memory.specs.Memory.{Memory, see, Now, linked, name_size, name_bytes, name_of, kept_bytes, kept_of, Stored, Holds, Whole, shown}
use Rattle.memory.proofs.Laws.{memory-same, kept_at}
use Rattle.ends.specs.Does.{Turns}
use Rattle.writing.specs.Puts.{Puts}
use Rattle.ends.proofs.Laws.{tells_none, tells_first}
use Rattle.reply.specs.declared.Did.{Did}
use Rattle.requests.specs.Made.{Splices}
use Rattle.answers.specs.Gives.{Says, Gives, unmoved, barred, mute}

-- ## The whole, from a part

-- a splicer of the name and the structures in b, of which the words show s
abbrev named : List ℕ → Memory → Splicer
named b s = record { name = name_of b; clock = s.clock; primary = s.primary; links = s.links; hardware = kept_of b; queue = s.queue }

module _ {m b : List ℕ} (w : Whole m b) {e : List ℕ} where
  -- no answer
  pub silent : Gives (says [] (shown m b)) (see m).ring_end e (unmoved 0) m b e
  silent = record { whole = w; splicer = refl; ring = refl; consumed = refl; tells = tells_none; moved = refl }

  -- one record, and nothing changes
  pub said : {x : Record} {n : ℕ} {o : List ℕ} → Says x e n o → Gives (says (x ∷ []) (shown m b)) (see m).ring_end e (unmoved n) m b o
  said t = record { whole = w; splicer = refl; ring = refl; consumed = refl; tells = t; moved = refl }

  -- what a request did to the sessions
  pub spliced : {a : Spliced} {n : List ℕ} {r : Did} {o : List ℕ} → Splices a m e r n o
      → Gives (splices a (shown m b)) (see m).ring_end e r n b o
  spliced g =
      record {
        whole = record { words = g.does.shows.form; bytes = w.bytes };
        splicer = ap (named b) g.does.shows.is;
        ring = ap (λ (s : Memory). s.ring_end) g.does.shows.is;
        consumed = g.consumed;
        tells = g.does.tells;
        moved = g.moved;
      }

  pub turned : {t : Turn} {n : List ℕ} {to : ℕ} {o : List ℕ} → Turns e 0 t (see m) n to o
      → Gives (turns t (shown m b)) (see m).ring_end e (unmoved to) n b o
  turned {t} g = spliced {a = record { turn = t; accepted = false; moved = 0 }} (record { consumed = refl; does = g; moved = refl })

-- ## Init

module _ (revision : ℕ) (asked name : List ℕ) where
  pub init-revision : (revision ≡ 2 → ⊥) → 102 ≡ init_result revision asked (name_in name)
  unfolding init_result
  init-revision n = rw (ne_eqb revision 2 n)

  -- b: whether the name is the splicer's
  pub init-name : (b n : Bool) → revision ≡ 2 → b ≡ same_name asked name → not b ≡ n →
      cond n 104 100 ≡ init_result revision asked (name_in name)
  unfolding init_result
  init-name b n e f g = rw (eq-eqb revision 2 e, name_in-twice name, ← f, g)

-- the Hardware_Config of a good Init_Request is as `memory` asks
pub hardware-whole : (d : List ℕ) → bad_init d ≡ false → (length (hardware_in d) ≡ 2 + length_in (hardware_in d)) ×
    (length (hardware_in d) ≤ longest_hardware)
hardware-whole d e =
    let n = hardware_length d in
    let f = hardware-fits d e in
    let long : length (hardware_in d) ≡ 2 + n = length-take-le (2 + n) (drop hardware_place d)
    (omega (arith, f.1, length-drop hardware_place d)) in
    (long ∙ ap (λ x. 2 + value x) (sym (take-take 2 (2 + n) (drop hardware_place d) (omega arith))), omega (arith, long, f.0))

-- x: the stored name
module _ {b x : List ℕ} (s : Stored b) (e : x ≡ name_bytes b) where
  pub stored-length : length x ≡ name_size
  stored-length = ap length e ∙ length-take-le name_size b (omega (arith, s.whole))

  pub stored-padded : x ≡ padded (name_in x)
  stored-padded = e ∙ s.name ∙ ap (λ (y : List ℕ). padded (name_in y)) (sym e)

-- r: the result for the name that was asked; x, y: the stored name; o: the buffer that held e
module _ {m b : List ℕ} (w : Whole m b) (c revision : ℕ) (d : List ℕ) {e : List ℕ} {r len : ℕ} {asked x y o : List ℕ}
    (ra : asked ≡ channel_name d) (rx : x ≡ name_bytes b) (ry : y ≡ name_bytes b) (rr : r ≡ init_result revision asked (name_in x))
    (ro : Puts (InitResponse c r (name_in y)) e len o) where
  -- n, p: the words and the bytes after the answer
  init-gives : {n p : List ℕ} → Whole n p → shown n p ≡ cond (eqb r 100) (initialised c (hardware_in d) (shown m b)) (shown m b) →
      (see n).ring_end ≡ (see m).ring_end → Gives (answer_init c revision d (shown m b)) (see m).ring_end e (unmoved len) n p o
  unfolding answer_init
  init-gives k h g =
      let p : r ≡ init_result revision (channel_name d) (name_of b) = rr ∙ ap₂ (λ (y z : List ℕ). init_result revision y (name_in z)) ra rx
      in
      record {
        whole = k;
        splicer = h ∙ ap (λ (k : ℕ). cond (eqb k 100) (initialised c (hardware_in d) (shown m b)) (shown m b)) p;
        ring = g;
        consumed = refl;
        moved = refl;
        tells =
            subst (λ (z : Record). Says z e len o) (ap₂ (λ (k : ℕ) (z : List ℕ). InitResponse c k (name_in z)) p ry) (tells_first ro);
      }

  -- "else 100 and initialised"; x: the Hardware_Config that is kept
  pub init-done : {n p x : List ℕ} → r ≡ 100 → Now n (linked c Initialised (see m)) → x ≡ hardware_in d
      → Holds p (name_of b) (set (kept_of b) c x) →
      Gives (answer_init c revision d (shown m b)) (see m).ring_end e (unmoved len) n p o
  init-done i h q k =
      let same = k.kept ∙ ap (λ (y : List ℕ). set (kept_of b) c y) q in
      init-gives (record { words = h.form; bytes = k.stored })
      ((λ j. record {
        name = k.name j;
        clock = (h.is j).clock;
        primary = (h.is j).primary;
        links = (h.is j).links;
        hardware = same j;
        queue = (h.is j).queue;
      })
      ∙ rw (eq-eqb r 100 i)) (ap (λ (s : Memory). s.ring_end) h.is)

  -- "A failed later Init leaves the connection initialised."
  pub init-failed : (r ≡ 100 → ⊥) → Gives (answer_init c revision d (shown m b)) (see m).ring_end e (unmoved len) m b o
  init-failed i = init-gives w (rw (ne_eqb r 100 i)) refl

-- ## Alive

pub air-none : (k : List Session) → length k ≡ 0 → (air_state k ≡ 1) × (air_id k ≡ nobody)
unfolding air_state air_id
air-none [] h = (refl, refl)
air-none (s ∷ k) h = absurd (omega arith)

pub air-some : (k : List Session) → 0 < length k → (air_state k ≡ 2) × (air_id k ≡ (get_or k 0 empty).id)
unfolding air_state air_id
air-some [] h = absurd (omega arith)
air-some (s ∷ k) h = (refl, refl)

-- x, i: the State and the SessionID; n: the clock; t: its time
pub alive-says : (m b : List ℕ) (c : ℕ) {e o : List ℕ} {x i len : ℕ} {n : Ninths} {t : Micros} →
    (air_state (see m).queue.started ≡ x) × (air_id (see m).queue.started ≡ i) → n.0 ≡ (see m).clock → t ≡ to_micros n →
    Puts (AliveResponse c 100 x i t.0) e len o → Says (alive_response c (shown m b)) e len o
unfolding alive_response
alive-says m b c {e} {o} {x} {i} {len} a p q h =
    let time : ℕ → ℕ = λ k. (to_micros (record { 0 = k })).0 in
    rw (a.0, a.1)
    (subst (λ (y : ℕ). Says (AliveResponse c 100 x i y) e len o) (ap (λ (y : Micros). y.0) q ∙ ap time p) (tells_first h))

-- ## 02, CR 8: what ended lately

-- y: what was found; o: the buffer that held e
module _ (c x : ℕ) (q : Queue) {y : Past} (f : y ≡ latest c x (recent q.lately)) where
  found-kept : {t : Bool} → is_kept y ≡ t → is_kept (latest c x (recent q.lately)) ≡ t
  found-kept h = ap is_kept (sym f) ∙ h

  pub extended_none : {e o : List ℕ} {len : ℕ} → y.result ≡ 0 → Puts (ExtendedNone c x) e len o → Says (extended_response c x q) e len o
  unfolding extended_response
  extended_none h b = rw (found-kept {t = false} (rw (eq-eqb y.result 0 h))) (tells_first b)

  pub extended-found : {e o : List ℕ} {len : ℕ} → (y.result ≡ 0 → ⊥)
      → Puts (ExtendedFound c x y.event y.result y.played) e len o →
      Says (extended_response c x q) e len o
  unfolding extended_response
  extended-found {e} {o} {len} h b =
      rw (found-kept {t = true} (rw (ne_eqb y.result 0 h)))
      (subst (λ (z : Past). Says (ExtendedFound c x z.event z.result z.played) e len o) f (tells_first b))

-- ## GetConfig

-- what the connection keeps, taken from its bytes, is not over 256 bytes
pub kept-short : {b h : List ℕ} → Stored b → (c : ℕ) → c ≤ 3 → h ≡ get_or (kept_of b) c no_hardware → length h ≤ longest_hardware
kept-short {b} s c low e =
    let l = ap length (e ∙ kept_at b c low) in
    omega (arith, l, length-take (2 + length_in (kept_bytes c b)) (kept_bytes c b), (s.kept c low).fits)

-- x: the stored name; h: what the connection keeps; y: the section
pub config-says : (m b : List ℕ) (c : ℕ) {e o x : List ℕ} {len : ℕ} (h y : List ℕ) → x ≡ name_bytes b
    → h ≡ get_or (kept_of b) c no_hardware →
    Puts (ConfigResponse c 100 (name_in x) h y) e len o → Says (config_response c y (shown m b)) e len o
unfolding config_response
config-says m b c {e} {o} {len = len} h y rx rh g =
    subst (λ (z : Record). Says z e len o) (ap₂ (λ (z u : List ℕ). ConfigResponse c 100 (name_in z) u y) rx rh) (tells_first g)

-- ## A message that is read

-- y: the message that was read; x: what it is
pub reads : (s : Splicer) (c id : ℕ) (d section : List ℕ) {at : ℕ} {e : List ℕ} {r : Did} {n b o : List ℕ} {y x : Option Message} → y
    ≡ read id d
    → y ≡ x →
    Gives (answer_read c x d section s) at e r n b o → Gives (answer_read c (read id d) d section s) at e r n b o
reads s c id d section {at} {e} {r} {n} {b} {o} p q g = subst (λ (z : Option Message). Gives (answer_read c z d section s) at e r n b o)
    (sym q ∙ p)
    g

-- ## "first that applies"

bars : (s : Splicer) (c id : ℕ) {l : Link} {t v : Bool} → l ≡ link_of c s → t ≡ barred l id → t ≡ v → barred (link_of c s) id ≡ v
bars s c id p q i = ap (λ (y : Link). barred y id) (sym p) ∙ sym q ∙ i

-- one that the match leaves: Closed or Opened
pub not-initialised : (l : Link) → (l ≡ Initialised → ⊥) → is_initialised l ≡ false
not-initialised Closed h = refl
not-initialised Opened h = refl
not-initialised Initialised h = absurd (h refl)

unless : (a : Bool) → not a ≡ true → a ≡ false
unless true e = sym e
unless false e = refl

-- one that is not barred, and has an answer
unbarred : (a x y : Bool) → (a && (not x && y)) ≡ false → x ≡ false → (a && y) ≡ false
unbarred a true y e f = absurd (clash true refl f)
unbarred a false y e f = e

open-to : (s : Splicer) (c id : ℕ) → barred (link_of c s) id ≡ false → eqb id 0x0000 ≡ false
    → (not (is_initialised (link_of c s)) && not (eqb id init_request)) ≡ false
open-to s c id = unbarred (not (is_initialised (link_of c s))) (eqb id 0x0000) (not (eqb id init_request))

-- of an answer from the memory m and b
abbrev GivesOf : (m e : List ℕ) → Answered → Did → (n b o : List ℕ) → Type 0
GivesOf m e a r n b o = Gives a (see m).ring_end e r n b o

module _ {m b : List ℕ} (w : Whole m b) (c id : ℕ) (d section : List ℕ) {e : List ℕ} where
  by_answer : (a : Answered) {r : Did} {n p o : List ℕ} → answer c id d section (shown m b) ≡ a → GivesOf m e a r n p o →
      GivesOf m e (answer c id d section (shown m b)) r n p o
  by_answer a {r} {n} {p} {o} q g = subst (λ (y : Answered). GivesOf m e y r n p o) (sym q) g

  -- l: what the connection is; t: whether that bars the message; u: whether it has no answer
  module _ {l : Link} {t u : Bool} (p : l ≡ link_of c (shown m b)) (q : t ≡ barred l id) (x : u ≡ mute id) where
    -- "2. Not initialised and not Init_Request: General_Response 103."
    pub second : t ≡ true → {to : ℕ} {o : List ℕ} → Says (General c 103) e to o
        → GivesOf m e (answer c id d section (shown m b)) (unmoved to) m b o
    unfolding answer
    second i g =
        let f = and_both (not (is_initialised (link_of c (shown m b)))) (not (eqb id 0x0000) && not (eqb id init_request))
        (bars (shown m b) c id p q i) in
        let k = and_both (not (eqb id 0x0000)) (not (eqb id init_request)) f.1 in
        by_answer (says (General c 103 ∷ []) (shown m b))
        (rw (unless (eqb id 0x0000) k.0, both-and (not (is_initialised (link_of c (shown m b)))) (not (eqb id init_request)) f.0 k.1))
        (said w g)

    module _ (i : t ≡ false) where
      -- "1. ID 0x0000: no answer." "3. ID 0x000D: no answer."
      pub third : u ≡ true → GivesOf m e (answer c id d section (shown m b)) (unmoved 0) m b e
      unfolding answer
      third j = go (eqb id 0x0000) refl
        where
          go : (v : Bool) → eqb id 0x0000 ≡ v → GivesOf m e (answer c id d section (shown m b)) (unmoved 0) m b e
          go true z = by_answer (says [] (shown m b)) (rw z) (silent w)
          go false z =
              let k : eqb id 0x000D ≡ true = ap (λ (v : Bool). v || eqb id 0x000D) (sym z) ∙ sym x ∙ j in
              by_answer (says [] (shown m b)) (rw (z, open-to (shown m b) c id (bars (shown m b) c id p q i) z, k)) (silent w)

      -- v: whether it is in the list
      module _ (j : u ≡ false) {v : Bool} (r : v ≡ is_read id) {o : List ℕ} where
        -- "4. ID not in the list of four: General_Response 120."
        pub fourth : {to : ℕ} → not v ≡ true → Says (General c 120) e to o
            → GivesOf m e (answer c id d section (shown m b)) (unmoved to) m b o
        unfolding answer
        fourth k g =
            let y = or-none (eqb id 0x0000) (eqb id 0x000D) (sym x ∙ j) in
            by_answer (says (General c 120 ∷ []) (shown m b))
            (rw (y.0, open-to (shown m b) c id (bars (shown m b) c id p q i) y.0, y.1, ← r, k)) (said w g)

        -- a message of the list
        pub fifth : {g : Did} {n p : List ℕ} → not v ≡ false → GivesOf m e (answer_read c (read id d) d section (shown m b)) g n p o →
            GivesOf m e (answer c id d section (shown m b)) g n p o
        unfolding answer
        fifth k g =
            let y = or-none (eqb id 0x0000) (eqb id 0x000D) (sym x ∙ j) in
            by_answer (answer_read c (read id d) d section (shown m b))
            (rw (y.0, open-to (shown m b) c id (bars (shown m b) c id p q i) y.0, y.1, ← r, k)) g

-- ## "any two results it allows are proved equal"

-- the lent words and bytes and the buffer included
pub answer-same : (a : Answered) (at : ℕ) (e : List ℕ) (r s : Did) (m n b c o p : List ℕ) → Gives a at e r m b o → Gives a at e s n c p →
    (r ≡ s) × (m ≡ n) × (b ≡ c) × (o ≡ p)
answer-same a at e r s m n b c o p x y =
    let same = memory-same m b n c x.whole y.whole (x.ring ∙ sym y.ring) (x.splicer ∙ sym y.splicer) in (
      (λ i. record {
        consumed = (x.consumed ∙ sym y.consumed) i;
        written = (x.tells.count ∙ sym y.tells.count) i;
        moved = (x.moved ∙ sym y.moved) i;
      }),
      same.0,
      same.1,
      x.tells.bytes ∙ sym y.tells.bytes,
    )
