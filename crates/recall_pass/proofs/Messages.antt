-- A message: what is left to do of an answer, done; and a kept message, at its place in the log.
-- Rests on what recall_answers promises of an answer, and on recall_log's laws of the first bytes.
use mathlib.Core.Path.{◌≡◌, refl, sym, ap, ap₂, subst, ◌∙◌}
use mathlib.Core.Bool.{Bool, true, false, cond}
use mathlib.Core.List.{List, ◌++◌, map}
use Prim.Native.Nat.{ℕ, ◌+◌, ◌-◌, ◌*◌, ◌≤◌}
use native.Mathlib.Omega.{arith}
use lib.Dec.{ltb}
use lib.ListN.{length, take, drop, set, length-drop}
use borrow.Author.Tests.{ltb-false}
use borrow.Rule.Slice.PartMut.{mid_of}
use Rattle.rules.specs.declared.Session.{Session}
use Rattle.std.specs.Prelude.{Option, Some, Result, Ok, Err}
use Rattle.rules.specs.declared.Header.{Header}
use Rattle.rules.specs.declared.Refusal.{Refusal}
use Rattle.rules.specs.declared.Refusal.TheVariants.{NoConnection, NoRoom, NotOpen, LongSection}
use Rattle.rules.specs.Lists.{All}
use Rattle.rules.specs.Bytes.{value, part, field, message_size, oversize, data_of}
use Rattle.rules.specs.Hardware.{hardware_in}
use Rattle.rules.specs.Reading.{bad_init}
use Rattle.rules.specs.Card.{card_loans}
use Rattle.rules.specs.HouseNumbers.{no_connection, no_room, long_section, Loans}
use Rattle.rules.specs.Calls.{framing, messages}
use Rattle.rules.proofs.Tests.{by}
use Rattle.reading.proofs.Laws.{behind}
use Rattle.reading.proofs.Laws as reads
use Rattle.recall_rules.specs.declared.Phase.TheVariants.{Waits}
use Rattle.recall_rules.specs.declared.Verdict.{Verdict}
use Rattle.recall_rules.specs.Verdicts.{verdict}
use Rattle.recall_rules.specs.Calls.{Pass, Called, not_open, refuse, section_of, answer, handled, message_call, call}
use Rattle.recall_rows.specs.Rows.{width, all, Fits}
use Rattle.recall_answers.specs.declared.Carried.{Carried}
use Rattle.recall_answers.specs.declared.Given.{Given}
use Rattle.recall_answers.specs.declared.Effect.{Effect}
use Rattle.recall_answers.specs.declared.Effect.TheVariants.{Nothing, Joins, Enters, Configures}
use Rattle.recall_answers.specs.Replies.{link_for, pass_of, hardware_at, hardwares, Placed, effected, Left, Replies}
use Rattle.recall_log.proofs.Firsts.{part-take}
use Rattle.recall_pass.specs.declared.Heard.{Heard}
use Rattle.recall_pass.specs.Passes.{rows_of, pass_in, relinked, replaced, framed, FramesAny, kept_by, Settles, SettlesAny, Hears}
use Rattle.recall_pass.specs.Passes.{HearsAny, Leads}
use Rattle.recall_pass.proofs.Rows.{map-set, all_set, rows_back, all_more}
use Rattle.recall_pass.proofs.Calls.{made, linked-is, stays, ok_no_err}

-- ## What is left to do

module _ (c : ℕ) (h : Carried) (m : List ℕ) (f : Fits (h.rows + 1) m) {x : Effect} (d : List ℕ) (hardware : List (List ℕ)) where
  pub settles-none : x ≡ Nothing → Settles c d x hardware h m h m
  unfolding kept_by effected
  settles-none e =
      subst (λ (y : Effect). Settles c d y hardware h m h m) (sym e) (record
      { pass = refl; fits = omega arith; few = omega arith; places = refl })

  pub settles-configures : x ≡ Configures → Settles c d x hardware h m h m
  unfolding kept_by effected
  settles-configures e =
      subst (λ (y : Effect). Settles c d y hardware h m h m) (sym e) (record
      { pass = refl; fits = omega arith; few = omega arith; places = refl })

  pub settles-enters : {r : Carried} → x ≡ Enters → r ≡ relinked c 2 h → Settles c d x hardware h m r m
  unfolding kept_by effected link_for
  settles-enters {r} e g =
      subst (λ (y : Effect). Settles c d y hardware h m r m) (sym e)
      (subst (λ (y : Carried). Settles c d Enters hardware h m y m) (sym g)
      (record { pass = linked-is _ h (rows_of h m) c 2; fits = omega arith; few = omega arith; places = refl }))

  -- k: the words with the row behind the last
  pub settles-joins : {s : Session} {k : List ℕ} → x ≡ Joins s → length k ≡ length m
      → all k ≡ set (all m) h.rows (verdict Waits s)
      → Settles c d x hardware h m (record { clock = h.clock; links = h.links; places = h.places; rows = h.rows + 1 }) k
  unfolding kept_by effected
  settles-joins {s} {k} e z v =
      let r : Carried = record { clock = h.clock; links = h.links; places = h.places; rows = h.rows + 1 } in
      subst (λ (y : Effect). Settles c d y hardware h m r k) (sym e)
      (record {
        pass = ap (λ (l : List Verdict). made h.clock.0 (pass_of hardware h m).links hardware l)
            (all_more h.rows m k (verdict Waits s) f (omega (arith, z, f)) v);
        fits = omega (arith, z, f);
        few = omega arith;
        places = refl;
      })

-- ## A message that is heard

-- k: the words of the rows after the answer; r, w: what is carried and the words after the rest was done
pub hears : (c id : ℕ) (d : List ℕ) (h : Carried) (m e : List ℕ) {g : Given} {k o w : List ℕ} {r : Carried} → Fits h.rows m
    → length k ≡ length (rows_of h m) → Replies c id d h (rows_of h m) e g k o
    → SettlesAny c g.effect h (k ++ drop (h.rows * width) m) r w
    → HearsAny c id d h m e (record { carried = r; len = g.len; moved = g.moved; effect = g.effect }) w o
hears c id d h m e {g} {k} f z p q hardware section =
    let a = p hardware section in
    let b = q d hardware in
    record {
      pass = b.pass ∙ ap (λ (x : List ℕ). effected c d g.effect (pass_of hardware h x)) (rows_back h.rows m k f z) ∙ sym a.pass;
      fits = b.fits;
      few = b.few;
      places = b.places;
      tells = a.tells;
      left = a.left;
      moved = a.moved;
    }

-- ## A message's tests, and what comes of them

pub message-is : (c : ℕ) (l : List ℕ) (loans : Loans) (s : Pass)
    → message_call c l loans s ≡ handled c (framed c l loans.room (long_section loans) s) l loans s
unfolding message_call handled framed
message-is c l loans s = go (no_connection c) (no_room loans.room) (not_open c s) (long_section loans)
  where
    go : (a b x y : Bool) → cond a (refuse NoConnection s) (cond b (refuse NoRoom s)
        (cond x (refuse NotOpen s) (cond y (refuse LongSection s) (handled c (framing l) l loans s))))
        ≡ handled c (cond a (Err NoConnection) (cond b (Err NoRoom)
        (cond x (Err NotOpen) (cond y (Err LongSection) (framing l))))) l loans s
    go true b x y = refl
    go false true x y = refl
    go false false true y = refl
    go false false false true = refl
    go false false false false = refl

-- what the work may rely on
pub framed-low : (c : ℕ) (l : List ℕ) (room : ℕ) (long : Bool) (s : Pass) {x : Header} → framed c l room long s ≡ Ok x
    → (c ≤ 3) × (4096 ≤ room) × (long ≡ false) × (framing l ≡ Ok x)
unfolding framed
framed-low c l room long s {x} = go (no_connection c) (no_room room) (not_open c s) long refl refl refl
  where
    go : (a b o y : Bool) → no_connection c ≡ a → no_room room ≡ b → long ≡ y
        → cond a (Err NoConnection) (cond b (Err NoRoom) (cond o (Err NotOpen) (cond y (Err LongSection) (framing l)))) ≡ Ok x
        → (c ≤ 3) × (4096 ≤ room) × (long ≡ false) × (framing l ≡ Ok x)
    go true b o y e f g z = absurd (ok_no_err (sym z))
    go false true o y e f g z = absurd (ok_no_err (sym z))
    go false false true y e f g z = absurd (ok_no_err (sym z))
    go false false false true e f g z = absurd (ok_no_err (sym z))
    go false false false false e f g z = (ltb-false 3 c e, ltb-false room 4096 f, g, z)

abbrev Sized : List ℕ → Result Header Refusal → Type 0
Sized l (Ok x) = x.size ≡ message_size l
Sized l (Err n) = Unit {0}

sized : (l : List ℕ) → Sized l (framing l)
unfolding framing
sized l =
    by (Sized l) (ltb (length l) 8) _ _ (λ e. tt)
    (λ e. by (Sized l) (oversize l) _ _ (λ f. tt) (λ f. by (Sized l) (ltb (length l) (8 + message_size l)) _ _ (λ g. tt) (λ g. refl)))

pub framed-size : (l : List ℕ) {x : Header} → framing l ≡ Ok x → x.size ≡ message_size l
framed-size l e = subst (Sized l) e (sized l)

-- a call that was refused
unframed : (c : ℕ) (f : Result Header Refusal) (l : List ℕ) (loans : Loans) (s : Pass) → ((x : Header) → f ≡ Ok x → ⊥)
    → (handled c f l loans s).pass ≡ s
unfolding handled
unframed c (Ok x) l loans s e = absurd (e x refl)
unframed c (Err n) l loans s e = refl

-- every answer but that of an Init_Request with 100
pub not-entering : (x : Effect) (c : ℕ) (d : List ℕ) (hs : List (List ℕ)) → (x ≡ Enters → ⊥)
    → kept_by x c d hs ≡ hs
unfolding kept_by
not-entering Nothing c d hs k = refl
not-entering (Joins s) c d hs k = refl
not-entering Enters c d hs k = absurd (k refl)
not-entering Configures c d hs k = refl

-- ## The kept message that stands in the log at a place

module _ (log : List ℕ) (from : ℕ) (w : from + (8 + message_size (drop from log)) ≤ length log) where
  abbrev size : ℕ
  size = message_size (drop from log)

  abbrev there : List ℕ
  there = part from (8 + size) log

  -- as it is read
  pub size-there : {n : ℕ} → n ≡ field 2 2 (mid_of from (length log - from) log) → n ≡ size
  size-there e = e ∙ ap (λ (x : List ℕ). field 2 2 x) (behind from log)

  pub part-there : {n : ℕ} → n ≡ size → mid_of from (from + 8 + n - from) log ≡ there
  part-there {n} e = let i : from + 8 + n - from ≡ 8 + size = omega (arith, e) in ap (λ (j : ℕ). take j (drop from log)) i

  -- n: the size as it is read; f: the tests' answer
  module _ {n : ℕ} (e : n ≡ field 2 2 (mid_of from (length log - from) log)) where
    abbrev read : List ℕ
    read = mid_of from (from + 8 + n - from) log

    pub part-is : read ≡ there
    part-is = part-there (size-there e)

    pub framed-there : (c : ℕ) (h : Carried) (m : List ℕ) {room : ℕ} {f : Result Header Refusal} → room ≡ 4096
        → FramesAny c read room false h f
        → f ≡ framed c there 4096 false (pass_in log h m)
    framed-there c h m i g = g (hardwares log h) (rows_of h m) ∙ ap₂ (λ (l : List ℕ) (r : ℕ). framed c l r false (pass_in log h m)) part-is
        i

  own-size : message_size there ≡ size
  own-size = ap value (part-take 2 2 (8 + size) (drop from log) (omega arith) (omega (arith, length-drop from log)))

  own-data : data_of size there ≡ data_of size (drop from log)
  own-data = part-take 8 size (8 + size) (drop from log) (omega arith) (omega (arith, length-drop from log))

  module _ (c : ℕ) (h : Carried) (m : List ℕ) (f : Result Header Refusal) (is : f ≡ framed c there 4096 false (pass_in log h m)) where
    abbrev s : Pass
    s = pass_in log h m

    abbrev called : Called
    called = call (messages c there card_loans) s

    called_is : called ≡ handled c f there card_loans s
    unfolding call
    called_is = message-is c there card_loans s ∙ ap (λ (x : Result Header Refusal). handled c x there card_loans s) (sym is)

    pub message-stays : ((x : Header) → f ≡ Ok x → ⊥) → Fits h.rows m → Leads log h called h m
    message-stays k z = stays log h m z (ap (λ (x : Called). x.pass) called_is ∙ unframed c f there card_loans s k)

    module _ (head : Header) (e : f ≡ Ok head) where
      past : (c ≤ 3) × (4096 ≤ 4096) × (false ≡ false) × (framing there ≡ Ok head)
      past = framed-low c there 4096 false s (sym is ∙ e)

      pub message-low : c ≤ 3
      message-low = past.0

      pub message-long : 8 + head.size ≤ length there
      message-long = (reads.framed there head past.3).0

      n-is : head.size ≡ size
      n-is = framed-size there past.3 ∙ own-size

      -- d: the data that is heard; g, k: what is carried and the words after it
      module _ (d : List ℕ) (a : d ≡ data_of head.size there) {b o k : List ℕ} {g : Heard} (y : HearsAny c head.id d h m b g k o) where
        abbrev section : List ℕ
        section = section_of card_loans s

        heard : Hears c d section (answer c head.id d section s) s h b g k o
        heard = y (hardwares log h) section

        answer-is : (answer c head.id d section s).pass ≡ called.pass
        unfolding handled
        answer-is =
            ap (λ (x : List ℕ). (answer c head.id x section s).pass) a
            ∙ sym (ap (λ (x : Called). x.pass) (called_is ∙ ap (λ (x : Result Header Refusal). handled c x there card_loans s) e))

        pub message-leads : (g.effect ≡ Enters → ⊥) → Leads log h called g.carried k
        message-leads z =
            let i : hardwares log g.carried ≡ kept_by g.effect c d (hardwares log h) =
            ap (map (hardware_at log)) heard.places ∙ sym (not-entering g.effect c d (hardwares log h) z) in
            record {
              pass = ap (λ (hs : List (List ℕ)). pass_of hs g.carried (rows_of g.carried k)) i ∙ heard.pass ∙ answer-is;
              fits = heard.fits;
              few = heard.few;
              placed = subst (λ (x : List (Option ℕ)). All (Placed log) x) (sym heard.places);
            }

        -- its data stands in the log from now on
        module _ (i : g.effect ≡ Enters) where
          data_is : d ≡ data_of size (drop from log)
          data_is = a ∙ ap (λ (j : ℕ). data_of j there) n-is ∙ own-data

          hardware-is : hardware_at log (Some from) ≡ hardware_in d
          unfolding hardware_at
          hardware-is = ap hardware_in (sym data_is)

          good : bad_init (data_of size (drop from log)) ≡ false
          good = subst (λ (x : List ℕ). bad_init x ≡ false) data_is
              (subst (λ (x : Effect). Left x c d section s (answer c head.id d section s).written) i heard.left)

          pub message-enters : {r : Carried} → r ≡ replaced c (Some from) g.carried → Leads log h called r k
          unfolding kept_by
          message-enters {r} q =
              let v : map (hardware_at log) (set g.carried.places c (Some from)) ≡ kept_by g.effect c d (hardwares log h) =
              map-set (hardware_at log) g.carried.places c (Some from)
              ∙ ap₂ (λ (x : List (Option ℕ)) (y : List ℕ). set (map (hardware_at log) x) c y) heard.places hardware-is
              ∙ ap (λ (x : Effect). kept_by x c d (hardwares log h)) (sym i) in
              subst (λ (x : Carried). Leads log h called x k) (sym q)
              (record {
                pass = ap (λ (hs : List (List ℕ)). pass_of hs g.carried (rows_of g.carried k)) v ∙ heard.pass ∙ answer-is;
                fits = heard.fits;
                few = heard.few;
                placed = λ x. all_set (Placed log) g.carried.places c (Some from) (record { whole = w; good = good })
                    (subst (λ (p : List (Option ℕ)). All (Placed log) p) (sym heard.places) x);
              })
