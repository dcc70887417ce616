-- What each call's proof says of its own paths: the refusals in their order, and what is carried after a call that is done.
-- Rests on what recall_ends and recall_instants promise of the verdicts, and on recall_rules' equality with the two ordered lists, from
-- which the room comes.
use mathlib.Core.Path.{◌≡◌, refl, sym, ap, subst, ◌∙◌}
use mathlib.Core.Bool.{Bool, true, false, cond}
use mathlib.Core.List.{List, [], ◌∷◌, ◌++◌}
use Prim.Native.Nat.{ℕ, ◌+◌, ◌*◌, ◌≤◌, ◌<◌}
use native.Mathlib.Omega.{arith}
use lib.ListN.{length, get_or, get_or-map, take, drop}
use borrow.Author.Tests.{ltb-false, lt-ltb, le-ltb}
use Rattle.rules.specs.declared.Ninths.{Ninths}
use Rattle.rules.specs.declared.Link.{Link}
use Rattle.rules.specs.declared.Link.TheVariants.{Closed, Opened, Initialised}
use Rattle.rules.specs.declared.Refusal.{Refusal}
use Rattle.rules.specs.declared.Refusal.TheVariants.{NoConnection, NoRoom, ClockBack, AlreadyOpen, NotOpen, BadMicros, LongSection}
use Rattle.std.specs.Prelude.{None, Result, Ok, Err}
use Rattle.reply.specs.declared.Did.{Did}
use Rattle.rules.specs.Units.{time_of, from_micros}
use Rattle.rules.specs.Records.{Record, output}
use Rattle.rules.specs.State.{Queue, of, is_open}
use Rattle.rules.specs.Card.{card_name}
use Rattle.rules.specs.Ends as ends
use Rattle.rules.specs.Calls.{framing}
use Rattle.rules.specs.HouseNumbers.{written_by, buffer_after, no_connection, no_room}
use Rattle.rules.proofs.Written.{written_none}
use Rattle.rules.proofs.Size.{Lean, cancelled-lean}
use Rattle.rules.proofs.Sound.{few-wait, few-started}
use Rattle.recall_rules.specs.declared.Verdict.{Verdict}
use Rattle.recall_rules.specs.Work.{on_air, closed_by, run_all, air_feed}
use Rattle.recall_rules.specs.Calls.{Pass, Called, link_of, with_link, with_verdicts, with_clock, shut, refuse, does, open_call, close_call}
use Rattle.recall_rules.specs.Calls.{ticked, move_call, tick_call, not_open, begun}
use Rattle.recall_rules.proofs.Ends.{fit, closed_by-same}
use Rattle.recall_rows.specs.Rows.{width, verdicts_in, Fits}
use Rattle.recall_ends.specs.Does.{all, Tells, Does}
use Rattle.recall_ends.proofs.Laws.{tells_none}
use Rattle.recall_instants.specs.Moments.{Keeps}
use Rattle.recall_instants.proofs.Running.{tick-room}
use Rattle.recall_answers.specs.declared.Carried.{Carried}
use Rattle.recall_answers.specs.Replies.{link_for, pass_of, hardware_at, hardwares, Placed}
use Rattle.recall_log.specs.Kept.{reply_of, unmoved}
use Rattle.recall_pass.specs.declared.Played.{Played}
use Rattle.recall_pass.specs.Passes.{rows_of, pass_in, relinked, replaced, carried_by, replied, Begins, Leads, Plays, tested, framed}
use Rattle.recall_pass.proofs.Rows.{map-set, all_set, rows_back, long-back}

-- ## Before the first call

pub nowhere : (l : List ℕ) → Placed l None
nowhere l = record { whole = tt; good = tt }

pub begins : (l m : List ℕ) → Begins (record {
  clock = record { 0 = 0 };
  links = 0 ∷ 0 ∷ 0 ∷ 0 ∷ [];
  places = None ∷ None ∷ None ∷ None ∷ [];
  rows =
      0;
}) l m
unfolding link_for hardware_at begun verdicts_in
begins l m = record { none = refl; pass = refl; placed = (nowhere l, (nowhere l, (nowhere l, (nowhere l, tt)))) }

-- ## A refusal, and a call that is done

module _ (l : List ℕ) (h : Carried) (m : List ℕ) (f : Fits h.rows m) where
  -- nothing changes
  pub stays : {c : Called} → c.pass ≡ pass_in l h m → Leads l h c h m
  stays e = record { pass = sym e; fits = f; few = omega arith; placed = λ a. a }

  -- "A refusal .. writes nothing .. and changes no state"
  pub refuses : (e : List ℕ) (n : Refusal) {c : Called} → c ≡ refuse n (pass_in l h m) → Plays l h c e (Err n) m e
  unfolding reply_of replied carried_by buffer_after written_by
  refuses e n i =
      subst (λ (x : Called). Plays l h x e (Err n) m e) (sym i)
      (record { leads = stays refl; reply = refl; buffer = sym (written_none e 0) })

-- a good call
abbrev pub plays : Carried → (len : ℕ) → Result Played Refusal
plays r len = Ok (record { carried = r; did = unmoved len })

-- the records rs are written, and the pass is q after it
pub plays-done : {l : List ℕ} {h : Carried} {c : Called} {e k o : List ℕ} {r : Carried} {len : ℕ} (rs : List Record) (q : Pass)
    → c ≡ does 0 rs q → Leads l h (does 0 rs q) r k → Tells e 0 rs len o
    → Plays l h c e (plays r len) k o
unfolding reply_of replied carried_by buffer_after written_by
plays-done {l} {h} {c} {e} {k} {o} {r} {len} rs q i g t =
    let n : len ≡ length (output rs) = omega (arith, t.count) in
    subst (λ (x : Called). Plays l h x e (plays r len) k o) (sym i)
    (record { leads = g; reply = ap (λ (j : ℕ). Ok (unmoved j)) n; buffer = t.bytes })

-- what is done is known
pub plays-as : {l : List ℕ} {h : Carried} {c : Called} {e k o : List ℕ} {r : Carried} {len : ℕ} {d : Did} → d ≡ unmoved len
    → Plays l h c e (plays r len) k o → Plays l h c e (Ok (record { carried = r; did = d })) k o
plays-as {l} {h} {c} {e} {k} {o} {r} g p = subst (λ (x : Did). Plays l h c e (Ok (record { carried = r; did = x })) k o) (sym g) p

-- ## Connections

-- the second way of `if let Link::Closed`
pub not-closed : (a : Link) → (a ≡ Closed → ⊥) → is_open a ≡ true
not-closed Closed h = absurd (h refl)
not-closed Opened h = refl
not-closed Initialised h = refl

abbrev pub made : ℕ → List Link → List (List ℕ) → List Verdict → Pass
made t ls hs l = record { name = card_name; clock = t; links = ls; hardware = hs; verdicts = l }

module _ (hardware : List (List ℕ)) (h : Carried) (m : List ℕ) (c : ℕ) where
  -- a: what the code was told
  pub link-is : {a : Link} → a ≡ link_for (get_or h.links c 0) → link_of c (pass_of hardware h m) ≡ a
  unfolding link_for
  link-is e = get_or-map link_for h.links c 0 ∙ sym e

  pub linked-is : (code : ℕ) → pass_of hardware (relinked c code h) m ≡ with_link c (link_for code) (pass_of hardware h m)
  linked-is code = ap (λ (x : List Link). made h.clock.0 x hardware (all m)) (map-set link_for h.links c code)

-- ## Open

module _ (c : ℕ) (s : Pass) where
  open_none : 3 < c → open_call c s ≡ refuse NoConnection s
  unfolding open_call
  open_none e = rw (lt-ltb 3 c e)

  open-again : c ≤ 3 → is_open (link_of c s) ≡ true → open_call c s ≡ refuse AlreadyOpen s
  unfolding open_call
  open-again e f = rw (le-ltb 3 c e, f)

  open-good : c ≤ 3 → is_open (link_of c s) ≡ false → open_call c s ≡ does 0 [] (with_link c Opened s)
  unfolding open_call
  open-good e f = rw (le-ltb 3 c e, f)

module _ (c : ℕ) (h : Carried) (m e : List ℕ) (f : Fits h.rows m) (l : List ℕ) where
  pub open-bad : 3 < c → Plays l h (open_call c (pass_in l h m)) e (Err NoConnection) m e
  open-bad i = refuses l h m f e NoConnection (open_none c (pass_in l h m) i)

  module _ (a : Link) (low : c ≤ 3) (is : a ≡ link_for (get_or h.links c 0)) where
    same : link_of c (pass_in l h m) ≡ a
    same = link-is (hardwares l h) h (rows_of h m) c is

    pub open_twice : is_open a ≡ true → Plays l h (open_call c (pass_in l h m)) e (Err AlreadyOpen) m e
    open_twice i = refuses l h m f e AlreadyOpen (open-again c (pass_in l h m) low (ap is_open same ∙ i))

    pub open_done : {r : Carried} → is_open a ≡ false → r ≡ relinked c 1 h
        → Plays l h (open_call c (pass_in l h m)) e (plays r 0) m e
    unfolding link_for
    open_done {r} i g =
        subst (λ (x : Carried). Plays l h (open_call c (pass_in l h m)) e (plays x 0) m e) (sym g)
        (plays-done [] (with_link c Opened (pass_in l h m)) (open-good c (pass_in l h m) low (ap is_open same ∙ i))
        (record { pass = linked-is (hardwares l h) h (rows_of h m) c 1; fits = f; few = omega arith; placed = λ x. x })
        tells_none)

-- ## 1, 2, 7

module _ (c room : ℕ) (s : Pass) where
  pub tested-none : 3 < c → Err NoConnection ≡ tested c room s
  unfolding tested
  tested-none e = rw (lt-ltb 3 c e)

  pub tested-small : c ≤ 3 → room < 4096 → Err NoRoom ≡ tested c room s
  unfolding tested
  tested-small e f = rw (le-ltb 3 c e, lt-ltb room 4096 f)

  module _ (low : c ≤ 3) (roomy : 4096 ≤ room) where
    pub tested-shut : is_open (link_of c s) ≡ false → Err NotOpen ≡ tested c room s
    unfolding tested
    tested-shut i = rw (le-ltb 3 c low, le-ltb room 4096 roomy, i)

    pub tested-good : is_open (link_of c s) ≡ true → Ok tt ≡ tested c room s
    unfolding tested
    tested-good i = rw (le-ltb 3 c low, le-ltb room 4096 roomy, i)

pub err_same : {A : Type 0} {n k : Refusal} → ◌≡◌ {A = Result A Refusal} (Err n) (Err k) → n ≡ k
err_same e = cc

pub ok_no_err : {A : Type 0} {x : A} {n : Refusal} → ◌≡◌ {A = Result A Refusal} (Ok x) (Err n) → ⊥
ok_no_err e = absurd cc

abbrev tests : (a b x : Bool) → Result (Unit {0}) Refusal
tests a b x = cond a (Err NoConnection) (cond b (Err NoRoom) (cond x (Err NotOpen) (Ok tt)))

-- what follows the tests: `bad` a refusal, `good` the rest
module _ {A : Type 0} (bad : Refusal → A) (good : A) where
  abbrev pub behind_tests : (a b x : Bool) → A
  behind_tests a b x = cond a (bad NoConnection) (cond b (bad NoRoom) (cond x (bad NotOpen) good))

  behind-bad : (a b x : Bool) {n : Refusal} → tests a b x ≡ Err n → behind_tests a b x ≡ bad n
  behind-bad true b x e = ap bad (err_same e)
  behind-bad false true x e = ap bad (err_same e)
  behind-bad false false true e = ap bad (err_same e)
  behind-bad false false false e = absurd (ok_no_err e)

  behind-good : (a b x : Bool) {u : Unit {0}} → tests a b x ≡ Ok u → behind_tests a b x ≡ good
  behind-good true b x e = absurd (ok_no_err (sym e))
  behind-good false true x e = absurd (ok_no_err (sym e))
  behind-good false false true e = absurd (ok_no_err (sym e))
  behind-good false false false e = refl

  module _ (c room : ℕ) (s : Pass) {r : Result (Unit {0}) Refusal} (is : r ≡ tested c room s) where
    pub tests-fail : {n : Refusal} → r ≡ Err n → behind_tests (no_connection c) (no_room room) (not_open c s) ≡ bad n
    unfolding tested
    tests-fail e = behind-bad (no_connection c) (no_room room) (not_open c s) (sym is ∙ e)

    pub tests-pass : {u : Unit {0}} → r ≡ Ok u → behind_tests (no_connection c) (no_room room) (not_open c s) ≡ good
    unfolding tested
    tests-pass e = behind-good (no_connection c) (no_room room) (not_open c s) (sym is ∙ e)

pub tested-low : (c room : ℕ) (s : Pass) {r : Result (Unit {0}) Refusal} {u : Unit {0}} → r ≡ tested c room s → r ≡ Ok u
    → (c ≤ 3) × (4096 ≤ room)
unfolding tested
tested-low c room s is e = go (no_connection c) (no_room room) (not_open c s) refl refl (sym is ∙ e)
  where
    go : (a b x : Bool) {u : Unit {0}} → no_connection c ≡ a → no_room room ≡ b → tests a b x ≡ Ok u → (c ≤ 3) × (4096 ≤ room)
    go true b x f g e = absurd (ok_no_err (sym e))
    go false true x f g e = absurd (ok_no_err (sym e))
    go false false true f g e = absurd (ok_no_err (sym e))
    go false false false f g e = (ltb-false 3 c f, ltb-false room 4096 g)

-- ## The tests of a message

module _ (c : ℕ) (l : List ℕ) (room : ℕ) (long : Bool) (hardware : List (List ℕ)) (h : Carried) (m : List ℕ)
    {r : Result (Unit {0}) Refusal} (is : r ≡ tested c room (pass_of hardware h m)) where
  abbrev s : Pass
  s = pass_of hardware h m

  pub framed-bad : {n : Refusal} → r ≡ Err n → Err n ≡ framed c l room long s
  unfolding framed
  framed-bad e = sym (tests-fail (λ n. Err n) (cond long (Err LongSection) (framing l)) c room s is e)

  module _ {u : Unit {0}} (e : r ≡ Ok u) where
    framed-behind : framed c l room long s ≡ cond long (Err LongSection) (framing l)
    unfolding framed
    framed-behind = tests-pass (λ n. Err n) (cond long (Err LongSection) (framing l)) c room s is e

    pub framed-long : long ≡ true → Err LongSection ≡ framed c l room long s
    framed-long i = sym (framed-behind ∙ rw i refl)

    pub framed-past : long ≡ false → framing l ≡ framed c l room long s
    framed-past i = sym (framed-behind ∙ rw i refl)

-- ## Close

closed-lean : (c : ℕ) (q : Queue) → Lean q (ends.closed_by c q)
unfolding ends.closed_by
closed-lean c q = cancelled-lean (of c) q

-- a buffer that no call refuses has room for a close
pub close-room : {at : ℕ} {l : List Verdict} (c : ℕ) (e : List ℕ) → Keeps at l → 4096 ≤ length e
    → 0 + length (output (closed_by c l).written) ≤ length e
close-room {at} {l} c e k h =
    omega (
      arith,
      ap (λ (rs : List Record). length (output rs)) (closed_by-same c l k.queue k.shows (fit k.holding)).written,
      closed-lean c k.queue,
      few-wait k.holding,
      few-started k.holding,
    )

module _ (c : ℕ) (h : Carried) (m e : List ℕ) (f : Fits h.rows m) (l : List ℕ) {r : Result (Unit {0}) Refusal}
    (is : r ≡ tested c (length e) (pass_in l h m)) where
  abbrev shut_by : Called
  shut_by =
      let s = pass_in l h m in
      let t = closed_by c s.verdicts in
      does 0 t.written (shut c (with_verdicts t.verdicts s))

  pub shuts-bad : {n : Refusal} → r ≡ Err n → Plays l h (close_call c (length e) (pass_in l h m)) e (Err n) m e
  unfolding close_call
  shuts-bad {n} i =
      refuses l h m f e n (tests-fail (λ n. refuse n (pass_in l h m)) shut_by c (length e) (pass_in l h m) is i)

  close-good : {u : Unit {0}} → r ≡ Ok u → close_call c (length e) (pass_in l h m) ≡ shut_by
  unfolding close_call
  close-good i = tests-pass (λ n. refuse n (pass_in l h m)) shut_by c (length e) (pass_in l h m) is i

  -- k: the words of the rows after it
  pub shuts : {u : Unit {0}} {k o : List ℕ} {len : ℕ} {q : Carried} → r ≡ Ok u → length k ≡ length (rows_of h m)
      → Does (closed_by c) 0 (rows_of h m) e len k o
      → q ≡ replaced c None (relinked c 0 h)
      → Plays l h (close_call c (length e) (pass_in l h m)) e (plays q len) (k ++ drop (h.rows * width) m) o
  unfolding link_for hardware_at
  shuts {u} {k} {o} {len} {q} i z d g =
      let t = closed_by c (all (rows_of h m)) in
      let x = k ++ drop (h.rows * width) m in
      let v : all (take (h.rows * width) x) ≡ t.verdicts = ap all (rows_back h.rows m k f z) ∙ d.holds in
      subst (λ (y : Carried). Plays l h (close_call c (length e) (pass_in l h m)) e (plays y len) x o) (sym g)
      (plays-done t.written (shut c (with_verdicts t.verdicts (pass_in l h m))) (close-good i)
      (record {
        pass = λ j. made h.clock.0 (map-set link_for h.links c 0 j) (map-set (hardware_at l) h.places c None j) (v j);
        fits = omega (arith, long-back h.rows m k f z, f);
        few = omega arith;
        placed = all_set (Placed l) h.places c None (nowhere l);
      })
      d.tells)

-- ## Tick

module _ (seconds micros room : ℕ) (s : Pass) where
  tick-small : room < 4096 → tick_call seconds micros room s ≡ refuse NoRoom s
  unfolding tick_call
  tick-small e = rw (lt-ltb room 4096 e)

  module _ (roomy : 4096 ≤ room) where
    tick-micros : 999999 < micros → tick_call seconds micros room s ≡ refuse BadMicros s
    unfolding tick_call
    tick-micros e = rw (le-ltb room 4096 roomy, lt-ltb 999999 micros e)

    module _ (low : micros ≤ 999999) (until : ℕ) (is : until ≡ (from_micros (time_of seconds micros)).0) where
      tick-moves : tick_call seconds micros room s ≡ move_call until room s
      unfolding tick_call
      tick-moves = go ∙ ap (λ (t : ℕ). move_call t room s) (sym is)
        where
          go : tick_call seconds micros room s ≡ move_call (from_micros (time_of seconds micros)).0 room s
          go = rw (le-ltb room 4096 roomy, le-ltb 999999 micros low)

      tick-back : until < s.clock → tick_call seconds micros room s ≡ refuse ClockBack s
      unfolding move_call
      tick-back e = tick-moves ∙ rw (le-ltb room 4096 roomy, lt-ltb until s.clock e)

      tick-good : s.clock ≤ until → tick_call seconds micros room s
          ≡ does 0 (run_all s.clock until s.verdicts).written
          (with_clock until (with_verdicts (run_all s.clock until s.verdicts).verdicts s))
      unfolding move_call ticked
      tick-good e = tick-moves ∙ rw (le-ltb room 4096 roomy, le-ltb until s.clock e)

-- as `close-room`
pub ticks-room : {at : ℕ} {l : List Verdict} (until : ℕ) (e : List ℕ) → Keeps at l → 4096 ≤ length e
    → 0 + length (output (run_all at until l).written) ≤ length e
ticks-room until e k h = omega (arith, tick-room until e k (le-ltb (length e) 4096 h))

module _ (seconds micros : ℕ) (h : Carried) (m e : List ℕ) (f : Fits h.rows m) (l : List ℕ) where
  pub ticks-small : length e < 4096 → Plays l h (tick_call seconds micros (length e) (pass_in l h m)) e (Err NoRoom) m e
  ticks-small i = refuses l h m f e NoRoom (tick-small seconds micros (length e) (pass_in l h m) i)

  module _ (roomy : 4096 ≤ length e) where
    pub ticks-micros : 999999 < micros → Plays l h (tick_call seconds micros (length e) (pass_in l h m)) e (Err BadMicros) m e
    ticks-micros i = refuses l h m f e BadMicros (tick-micros seconds micros (length e) (pass_in l h m) roomy i)

    module _ (low : micros ≤ 999999) (until : Ninths) (is : until ≡ from_micros (time_of seconds micros)) where
      time-is : until.0 ≡ (from_micros (time_of seconds micros)).0
      time-is = ap (λ (x : Ninths). x.0) is

      pub ticks-back : until.0 < h.clock.0 → Plays l h (tick_call seconds micros (length e) (pass_in l h m)) e (Err ClockBack) m e
      ticks-back i = refuses l h m f e ClockBack (tick-back seconds micros (length e) (pass_in l h m) roomy low until.0 time-is i)

      pub ticks-done : {k o : List ℕ} {len : ℕ} → h.clock.0 ≤ until.0 → length k ≡ length (rows_of h m)
          → Does (run_all h.clock.0 until.0) 0 (rows_of h m) e len k o
          → Plays l h (tick_call seconds micros (length e) (pass_in l h m)) e
          (plays (record { clock = until; links = h.links; places = h.places; rows = h.rows }) len)
          (k ++ drop (h.rows * width) m) o
      ticks-done {k} {o} {len} i z d =
          let t = run_all h.clock.0 until.0 (all (rows_of h m)) in
          let x = k ++ drop (h.rows * width) m in
          let v : all (take (h.rows * width) x) ≡ t.verdicts = ap all (rows_back h.rows m k f z) ∙ d.holds in
          plays-done t.written (with_clock until.0 (with_verdicts t.verdicts (pass_in l h m)))
          (tick-good seconds micros (length e) (pass_in l h m) roomy low until.0 time-is i)
          (record {
            pass = ap (λ (y : List Verdict). made until.0 (pass_in l h m).links (hardwares l h) y) v;
            fits = omega (arith, long-back h.rows m k f z, f);
            few = omega arith;
            placed = λ y. y;
          })
          d.tells

-- ## Whose section is on air

module _ (n : ℕ) (m : List ℕ) where
  pub feed-on : {i : ℕ} → (i ≡ on_air (all (take (n * width) m))) × (i < length (all (take (n * width) m)))
      → 1 ≡ air_feed (all (take (n * width) m))
  unfolding air_feed
  feed-on {i} z = rw (lt-ltb (on_air (all (take (n * width) m))) (length (all (take (n * width) m))) (omega (arith, z.0, z.1)))

  pub feed-off : length (all (take (n * width) m)) ≤ on_air (all (take (n * width) m)) → 0 ≡ air_feed (all (take (n * width) m))
  unfolding air_feed
  feed-off z = rw (le-ltb (on_air (all (take (n * width) m))) (length (all (take (n * width) m))) z)
