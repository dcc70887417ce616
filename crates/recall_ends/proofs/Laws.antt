-- Laws of what this crate promises: records one behind another, and pieces of work one after another, with the room for all of them.
-- Rests on rules' laws of what is written into a buffer.
use mathlib.Core.Path.{◌≡◌, refl, sym, ap, ap₂, subst, ◌∙◌}
use mathlib.Core.Bool.{Bool, true}
use mathlib.Core.List.{List, [], ◌∷◌, ◌++◌}
use Prim.Native.Nat.{ℕ, suc, ◌+◌, ◌-◌, ◌*◌, ◌/◌, ◌%◌, ◌≤◌, ◌<◌}
use native.Mathlib.Omega.{arith}
use lib.ListN.{length, get_or, set, length-append, length-take, length-drop}
use borrow.Author.Tests.{lt-ltb, le-ltb}
use borrow.Rule.Slice.PartMut.{put_mid, mid_of}
use Rattle.rules.specs.declared.Session.{Session}
use Rattle.rules.specs.declared.Ending.{Ending}
use Rattle.rules.specs.declared.Ending.TheVariants.{Complete, Failed, Response}
use Rattle.rules.specs.Bytes.{bytes, written}
use Rattle.rules.specs.Records.{Record, SpliceComplete, result_of, framed, record_bytes, output}
use Rattle.rules.specs.State.{is, follows, starts_at}
use Rattle.rules.specs.Ends.{ended}
use Rattle.rules.proofs.Records.{length-record}
use Rattle.rules.proofs.Written.{written_none, written-part, output-append, output-one, written-output}
use Rattle.rules.specs.Lists.{count}
use Rattle.writing.specs.Puts.{Puts}
use Rattle.recall_rules.specs.declared.Phase.{Phase}
use Rattle.recall_rules.specs.declared.Phase.TheVariants.{Ended}
use Rattle.recall_rules.specs.declared.Verdict.{Verdict}
use Rattle.recall_rules.specs.Verdicts.{is_waiting, has_ended, none, standing, which, session_of, as_ended, over}
pub use Rattle.recall_rows.proofs.Rows.{length-all}
use Rattle.recall_rows.proofs.Scans.{count-all}
use Rattle.recall_rules.proofs.Links.{waiting_in, one_less, dismissed-none, dismissed-more}
use Rattle.recall_rules.specs.Work.{Turn, quiet, and_then, dismissed, evicted, cancelled, aborted}
use Rattle.recall_ends.specs.Does.{all, Completing, Tells, Turns, Does, Room, one_over, chain_over, started_end, waiting_end}

-- ## Records, one behind another

module _ {e : List ℕ} {len : ℕ} where
  pub tells_none : Tells e len [] len e
  unfolding output
  tells_none = record { count = omega arith; bytes = sym (written_none e len) }

  -- one record
  pub tells-one : {r : Record} {to : ℕ} {o : List ℕ} → to ≡ len + length (record_bytes r) → o ≡ written e len (record_bytes r) →
      Tells e len (r ∷ []) to o
  tells-one {r} c b =
      record {
        count = c ∙ ap (λ (l : List ℕ). len + length l) (sym (output-one r));
        bytes = b ∙ ap (written e len) (sym (output-one r));
      }

  -- one record, put at the start of the part behind the last
  pub tells-part : {r : Record} {n : ℕ} {y : List ℕ} → len ≤ length e → Puts r (mid_of len (length e - len) e) n y →
      Tells e len (r ∷ []) (len + n) (put_mid len (length e - len) e y)
  tells-part {r} {y = y} h w =
      tells-one (omega (arith, w.count))
      (written-part len e y (record_bytes r) (omega (arith, w.count, simp (length-take, length-drop) at w.fits)) w.bytes)

  -- a record is told by its bytes
  pub tells-same : {r s : Record} {to : ℕ} {o : List ℕ} → record_bytes r ≡ record_bytes s → Tells e len (r ∷ []) to o
      → Tells e len (s ∷ []) to o
  tells-same {r} {s} q t =
      tells-one (t.count ∙ ap (λ (l : List ℕ). len + length l) (output-one r ∙ q)) (t.bytes ∙ ap (written e len) (output-one r ∙ q))

  -- some records, and others behind them
  pub tells-then : {rs ss : List Record} {n to : ℕ} {o o' : List ℕ} → len + length (output rs) ≤ length e →
      Tells e len rs n o → Tells o n ss to o' → Tells e len (rs ++ ss) to o'
  tells-then {rs} {ss} {n} h a b =
      record {
        count =
            b.count
            ∙ omega (arith, a.count, length-append (output rs) (output ss))
            ∙ ap (λ (l : List ℕ). len + length l) (sym (output-append rs ss));
        bytes = b.bytes ∙ ap (λ (l : List ℕ). written l n (output ss)) a.bytes ∙ written-output e len rs ss n h a.count;
      }

-- one record, put at the start of the buffer
pub tells_first : {e : List ℕ} {r : Record} {n : ℕ} {o : List ℕ} → Puts r e n o → Tells e 0 (r ∷ []) n o
tells_first w = tells-one (omega (arith, w.count)) w.bytes

-- ## Work on the verdicts

module _ {e : List ℕ} {len : ℕ} where
  -- nothing is done
  pub turns-quiet : {m : List ℕ} → Turns e len (quiet (all m)) m len e
  turns-quiet = record { holds = refl; tells = tells_none }

  -- one piece of work, and another from where it ended
  pub turns_then : (t : Turn) (f : List Verdict → Turn) {m m' : List ℕ} {n to : ℕ} {o o' : List ℕ} →
      len + length (output t.written) ≤ length e → Turns e len t m n o → Turns o n (f (all m)) m' to o'
      → Turns e len (and_then t f) m' to o'
  unfolding and_then
  turns_then t f {m} {m'} {n} {to} {o} {o'} h a b =
      let c = subst (λ (l : List Verdict). Turns o n (f l) m' to o') a.holds b in
      record { holds = c.holds; tells = tells-then h a.tells c.tells }

-- ## An end

-- what the tags say
pub completing : (h : Ending) → ((r : ℕ) → h ≡ Response r → ⊥) → Completing h
completing (Complete r) k = tt
completing Failed k = tt
completing (Response r) k = k r refl

pub failing : (h : Ending) → Completing h → ((r : ℕ) → h ≡ Complete r → ⊥) → h ≡ Failed
failing (Complete r) c k = absurd (k r refl)
failing Failed c k = refl
failing (Response r) c k = absurd c

-- four bytes show no more of a PlayedDuration
next-byte : (a b k : ℕ) → b ≡ a + 256 * k → b / 256 ≡ a / 256 + k
next-byte a b k e = omega arith

this-byte : (a b k : ℕ) → b ≡ a + 256 * k → a % 256 ≡ b % 256
this-byte a b k e = omega arith

whole : (n : ℕ) → n / 100 ≡ n % 429496729600 / 100 + 256 * (256 * (256 * (256 * (n / 429496729600))))
whole n = omega arith

pub four_bytes : (n : ℕ) → bytes 4 (n % 429496729600 / 100) ≡ bytes 4 (n / 100)
unfolding bytes
four_bytes n =
    let a = n % 429496729600 / 100 in
    let b = n / 100 in
    let q = n / 429496729600 in
    let e0 = whole n in
    let e1 = next-byte a b (256 * (256 * (256 * q))) e0 in
    let e2 = next-byte (a / 256) (b / 256) (256 * (256 * q)) e1 in
    let e3 = next-byte (a / 256 / 256) (b / 256 / 256) (256 * q) e2 in
    let f0 = this-byte a b (256 * (256 * (256 * q))) e0 in
    let f1 = this-byte (a / 256) (b / 256) (256 * (256 * q)) e1 in
    let f2 = this-byte (a / 256 / 256) (b / 256 / 256) (256 * q) e2 in
    let f3 = this-byte (a / 256 / 256 / 256) (b / 256 / 256 / 256) q e3 in
    λ i. f3 i ∷ f2 i ∷ f1 i ∷ f0 i ∷ []

-- the record of an end with flag 1
pub complete-bytes : (c r x flag n : ℕ) → record_bytes (SpliceComplete c r x flag (n % 429496729600 / 100))
    ≡ record_bytes (SpliceComplete c r x flag (n / 100))
unfolding record_bytes
complete-bytes c r x flag n = ap (λ (l : List ℕ). framed c 0x0009 r (bytes 4 x ++ (bytes 1 flag ++ (bytes 4 0 ++ l)))) (four_bytes n)

pub length-complete : (h : Ending) (s : Session) → Completing h → length (output (ended h s ∷ [])) ≡ 23
length-complete (Complete r) s k = ap length (output-one (ended (Complete r) s)) ∙ length-record (ended (Complete r) s) tt
length-complete Failed s k = ap length (output-one (ended Failed s)) ∙ length-record (ended Failed s) tt
length-complete (Response r) s k = absurd k

pub length-response : (r : ℕ) (s : Session) → length (output (ended (Response r) s ∷ [])) ≡ 14
length-response r s = ap length (output-one (ended (Response r) s)) ∙ length-record (ended (Response r) s) tt

-- ## Room

-- what one piece of work and another after it write
pub length-then : (t : Turn) (f : List Verdict → Turn) → length (output (and_then t f).written) ≡ length (output t.written)
    + length (output (f t.verdicts).written)
unfolding and_then
length-then t f = ap length (output-append t.written (f t.verdicts).written)
    ∙ length-append (output t.written) (output (f t.verdicts).written)

-- ## One end, and those that follow

-- call i ends: its row says so, and its end is written
pub one-over : (how : Ending) (i : ℕ) (m k : List ℕ) (x : Session) (f : Phase) {e o : List ℕ} {len to : ℕ} → x ≡ session_of (all m) i
    → f ≡ as_ended how x (all m) → all k ≡ set (all m) i (record { phase = f; session = x })
    → Tells e len (ended how x ∷ []) to o
    → Turns e len (one_over how i (all m)) k to o
one-over how i m k x f {e} {o} {len} {to} a b s t =
    record {
      holds = s ∙ ap₂ (λ (g : Phase) (y : Session). set (all m) i (record { phase = g; session = y }))
          (b ∙ ap (λ (y : Session). as_ended how y (all m)) a) a;
      tells = subst (λ (y : Session). Tells e len (ended how y ∷ []) to o) a t;
    }

-- the session of a row
pub loaded : (i : ℕ) (m : List ℕ) (v : Verdict) → v ≡ get_or (all m) i none → v.session ≡ session_of (all m) i
loaded i m v f = ap (λ (w : Verdict). w.session) f

-- the phase that is stored
pub ended-phase : (how : Ending) (x : Session) (m : List ℕ) (nth r : ℕ) → nth ≡ count (λ s. true) (standing has_ended (all m))
    → r ≡ result_of (ended how x) → Ended nth r ≡ as_ended how x (all m)
ended-phase how x m nth r a b = ap₂ (λ (j h : ℕ). Ended j h) (a ∙ count-all has_ended (all m)) b

-- connection c's number x is followed by call i of the words m
module _ (r c x i : ℕ) (m : List ℕ) (f : i ≡ which is_waiting (follows c x) (all m)) where
  abbrev one : List Verdict → Turn
  one = one_over (Response r) i

  pub more-is : i < length (all m) → dismissed r c x (all m) ≡ and_then (one (all m)) (dismissed r c (session_of (all m) i).id)
  more-is h =
      let g : which is_waiting (follows c x) (all m) < length (all m) = omega (arith, h, f) in
      dismissed-more r c x (all m) g ∙ ap (λ (j : ℕ). and_then (one_over (Response r) j (all m)) (dismissed r c (session_of (all m) j).id))
      (sym f)

  module _ (e : List ℕ) (len : ℕ) (room : Room (dismissed r c x) len m e) (h : i < length (all m)) where
    both-room : len + (length (output (one (all m)).written)
        + length (output (dismissed r c (session_of (all m) i).id (one (all m)).verdicts).written)) ≤ length e
    both-room = omega (
      arith,
      room,
      ap (λ (t : Turn). length (output t.written)) (more-is h),
      length-then (one (all m)) (dismissed r c (session_of (all m) i).id),
    )

    pub one-room : Room one len m e
    one-room = omega (arith, both-room)

    module _ {k o : List ℕ} {to next : ℕ} (d : Does one len m e to k o) (y : next ≡ (session_of (all m) i).id) where
      pub rest-room : length o ≡ length e → Room (dismissed r c next) to k o
      rest-room z =
          subst (λ (v : List Verdict). to + length (output (dismissed r c next v).written) ≤ length o) (sym d.holds)
          (subst (λ (j : ℕ). to + length (output (dismissed r c j (one (all m)).verdicts).written) ≤ length o) (sym y)
          (omega (arith, both-room, z, d.tells.count)))

      -- fewer wait
      pub rest-less : waiting_in (all k) < waiting_in (all m)
      rest-less =
          let g : which is_waiting (follows c x) (all m) < length (all m) = omega (arith, h, f) in
          let l : suc (waiting_in (over (Response r) i (all m))) ≡ waiting_in (all m) =
          ap (λ (j : ℕ). suc (waiting_in (over (Response r) j (all m)))) f ∙ one_less (follows c x) (all m) g (Response r) in
          omega (arith, l, ap waiting_in d.holds)

      pub rest-done : {k' o' : List ℕ} {to' : ℕ} → Does (dismissed r c next) to k o to' k' o' → Does (dismissed r c x) len m e to' k' o'
      rest-done {k'} {o'} {to'} v =
          subst (λ (t : Turn). Turns e len t k' to' o') (sym (more-is h))
          (turns_then (one (all m)) (dismissed r c (session_of (all m) i).id) (one-room) d
          (subst (λ (j : ℕ). Turns o to (dismissed r c j (all k)) k' to' o') y v))

  pub none_done : {e : List ℕ} {len : ℕ} → length (all m) ≤ i → Does (dismissed r c x) len m e len m e
  none_done {e} {len} h = subst (λ (t : Turn). Turns e len t m len e) (sym (dismissed-none r c x (all m) (omega (arith, h, f)))) turns-quiet

-- ## One piece of work, and another from where it ended

module _ {w : Turn} (t : Turn) (f : List Verdict → Turn) (is : w ≡ and_then t f) (e : List ℕ) (len : ℕ)
    (room : len + length (output w.written) ≤ length e) where
  total : len + (length (output t.written) + length (output (f t.verdicts).written)) ≤ length e
  total = omega (arith, room, ap (λ (u : Turn). length (output u.written)) is, length-then t f)

  pub first-room : len + length (output t.written) ≤ length e
  first-room = omega (arith, total)

  module _ {k o : List ℕ} {to : ℕ} (d : Turns e len t k to o) where
    pub next-room : length o ≡ length e → Room f to k o
    next-room z = subst (λ (v : List Verdict). to + length (output (f v).written) ≤ length o) (sym d.holds)
        (omega (arith, total, z, d.tells.count))

    pub both-done : {k' o' : List ℕ} {to' : ℕ} → Turns o to (f (all k)) k' to' o' → Turns e len w k' to' o'
    both-done {k'} {o'} {to'} g = subst (λ (u : Turn). Turns e len u k' to' o') (sym is) (turns_then t f first-room d g)

-- ## The same work

module _ {v w : Turn} (is : v ≡ w) where
  pub as_room : (e : List ℕ) (len : ℕ) → len + length (output v.written) ≤ length e → len + length (output w.written) ≤ length e
  as_room e len h = omega (arith, h, ap (λ (u : Turn). length (output u.written)) is)

  pub as-done : {e k o : List ℕ} {len to : ℕ} → Turns e len w k to o → Turns e len v k to o
  as-done {e} {k} {o} {len} {to} d = subst (λ (u : Turn). Turns e len u k to o) (sym is) d

-- how the pieces are made up
pub cancelled-is : (p : Session → Bool) (l : List Verdict) → cancelled p l
    ≡ and_then (started_end (Complete 116) (Response 116) p l) (waiting_end (Response 116) p)
unfolding cancelled and_then started_end waiting_end
cancelled-is p l = refl

pub aborted-is : (c x : ℕ) (l : List Verdict) → aborted c x l ≡ and_then (cancelled (is c x) l) (dismissed 116 c x)
unfolding aborted
aborted-is c x l = refl

-- x is the session of call i
pub chain-is : (how : Ending) (r i : ℕ) (x : Session) (l : List Verdict) → x ≡ session_of l i
    → chain_over how r i l ≡ and_then (one_over how i l) (dismissed r x.conn x.id)
chain-is how r i x l e = ap (λ (y : Session). and_then (one_over how i l) (dismissed r y.conn y.id)) (sym e)

module _ (t i : ℕ) (l : List Verdict) (f : i ≡ which is_waiting (starts_at t) l) where
  pub evicted-one : i < length l → evicted t l ≡ chain_over (Response 109) 109 i l
  unfolding evicted
  evicted-one h = rw (← f, lt-ltb i (length l) h) refl

  pub evicted-none : length l ≤ i → evicted t l ≡ quiet l
  unfolding evicted
  evicted-none h = rw (← f, le-ltb i (length l) h) refl
