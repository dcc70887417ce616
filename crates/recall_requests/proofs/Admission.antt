-- f and the two answers: each is one piece of work behind another, and where b to e refuse or nothing is held, one record.
-- Rests on the laws of one piece of work behind another.
use mathlib.Core.Path.{◌≡◌, refl, sym, ap, ap₂, subst, ◌∙◌}
use mathlib.Core.Bool.{Bool, true, false, cond}
use mathlib.Core.List.{List, [], ◌∷◌, ◌++◌, append_cancel_right}
use Prim.Native.Nat.{ℕ, ◌+◌, ◌-◌, ◌≤◌}
use native.Mathlib.Omega.{arith}
use lib.Dec.{eqb}
use lib.ListN.{length}
use borrow.Author.Tests.{eq-eqb, ne_eqb}
use borrow.Rule.Slice.PartMut.{put_mid, mid_of}
use Rattle.std.specs.declared.option.Option.{Option}
use Rattle.std.specs.declared.option.Option.TheVariants.{Some, None}
use Rattle.rules.specs.declared.Session.{Session}
use Rattle.rules.specs.declared.Request.{Request}
use Rattle.rules.specs.Lists.{count}
use Rattle.rules.specs.Records.{Record, SpliceResponse, AbortResponse, output}
use Rattle.rules.specs.State.{starts_after}
use Rattle.rules.specs.Splicing.{session_at, accepts}
use Rattle.rules.proofs.Size.{weight-one}
use Rattle.rules.proofs.Written.{written_same}
use Rattle.writing.specs.Puts.{Puts}
use Rattle.recall_rules.specs.declared.Phase.TheVariants.{Waits}
use Rattle.recall_rules.specs.declared.Verdict.{Verdict}
use Rattle.recall_rules.specs.Verdicts.{is_waiting, verdict, standing}
use Rattle.recall_rules.specs.Work.{Turn, writes, and_then, evicted, aborted, holds, start_of, requested, splice_result, accepted, Spliced}
use Rattle.recall_rules.specs.Work.{later, grants, declines, answer_splice, answer_abort}
use Rattle.recall_ends.specs.Does.{all, Tells, Turns, Room, Does}
use Rattle.recall_ends.proofs.Laws.{tells_first, tells-part}
use Rattle.recall_instants.proofs.Starts.{first-room, next-room, both-done, as_room, as-done}
use Rattle.recall_requests.specs.declared.Given.{Given}
use Rattle.recall_requests.specs.Admits.{admitted, joined, spliced, Admits, Splices}

-- one record, from the front
says-one : {x : Record} {m e o : List ℕ} {len : ℕ} → Puts x e len o → Does (writes (x ∷ [])) 0 m e len m o
says-one b = record { holds = refl; tells = tells_first b }

-- ## f

abbrev grant : Session → List Verdict → Turn
grant s = writes (accepts s ∷ [])

module _ (s : Session) (m e : List ℕ) (room : Room (admitted s) 0 m e) where
  abbrev evicts : List Verdict → Turn
  evicts = evicted s.start.0

  parts : admitted s (all m) ≡ and_then (evicts (all m)) (grant s)
  unfolding admitted
  parts = refl

  pub evict-room : Room (evicted s.start.0) 0 m e
  evict-room = first-room (evicts (all m)) (grant s) parts e 0 room

  -- who is evicted has ended, in the words k
  module _ {k o : List ℕ} {to : ℕ} (d : Does (evicted s.start.0) 0 m e to k o) where
    pub grant-room : length o ≡ length e → to + 14 ≤ length o
    grant-room z = omega (arith, next-room (evicts (all m)) (grant s) parts e 0 room d z, weight-one (accepts s) tt)

    pub grant-done : {y : List ℕ} {n : ℕ} → length o ≡ length e → Puts (accepts s) (mid_of to (length o - to) o) n y
        → Does (admitted s) 0 m e (to + n) k (put_mid to (length o - to) o y)
    grant-done z w =
        both-done (evicts (all m)) (grant s) parts e 0 room d
        (record { holds = refl; tells = tells-part (omega (arith, grant-room z)) w })

    pub later-is : (x : ℕ) → x ≡ count (starts_after s.start.0) (standing is_waiting (all k)) → x ≡ later s (all m)
    unfolding later
    later-is x f = f ∙ ap (λ (l : List Verdict). count (starts_after s.start.0) (standing is_waiting l)) d.holds

-- but for the new verdict
accepted-written : (s : Session) (l : List Verdict) → (admitted s l).written ≡ (accepted s l).written
unfolding admitted accepted and_then
accepted-written s l = refl

accepted-verdicts : (s : Session) (l : List Verdict) → (admitted s l).verdicts ++ (verdict Waits s ∷ []) ≡ (accepted s l).verdicts
unfolding admitted accepted and_then
accepted-verdicts s l = refl

-- ## The answer to a Splice_Request

-- new: the session that r asks for; n: its result
module _ (clock c : ℕ) (r : Request) (m : List ℕ) {t n : ℕ} {new : Session} (start : t ≡ start_of c r.start (all m))
    (is : new ≡ session_at t c r)
    (f : n ≡ splice_result clock new.conn r new (all m)) where
  asked : new ≡ requested c r (all m)
  unfolding requested
  asked = is ∙ ap (λ (j : ℕ). session_at j c r) start

  conn-is : new.conn ≡ c
  unfolding session_at
  conn-is = ap (λ (s : Session). s.conn) is

  result-is : n ≡ splice_result clock c r (requested c r (all m)) (all m)
  result-is = f ∙ ap₂ (λ (d : ℕ) (s : Session). splice_result clock d r s (all m)) conn-is asked

  answer-is : answer_splice clock c r (all m) ≡ cond (eqb n 100) (grants new (all m)) (declines c n r (all m))
  unfolding answer_splice
  answer-is = sym (ap₂ (λ (k : ℕ) (s : Session). cond (eqb k 100) (grants s (all m)) (declines c k r (all m))) result-is asked)

  granted : n ≡ 100 → answer_splice clock c r (all m) ≡ grants new (all m)
  granted h = answer-is ∙ ap (λ (b : Bool). cond b (grants new (all m)) (declines c n r (all m))) (eq-eqb n 100 h)

  declined : (n ≡ 100 → ⊥) → answer_splice clock c r (all m) ≡ declines c n r (all m)
  declined h = answer-is ∙ ap (λ (b : Bool). cond b (grants new (all m)) (declines c n r (all m))) (ne_eqb n 100 h)

  module _ (e : List ℕ) (room : Room (spliced clock c r) 0 m e) where
    pub admit-room : n ≡ 100 → Room (admitted new) 0 m e
    admit-room h =
        omega (
          arith,
          room,
          ap (λ (a : Spliced). length (output a.turn.written)) (granted h),
          ap (λ (rs : List Record). length (output rs)) (accepted-written new (all m)),
        )

    pub decline-room : (n ≡ 100 → ⊥) → 14 ≤ length e
    decline-room h =
        omega (
          arith,
          room,
          ap (λ (a : Spliced). length (output a.turn.written)) (declined h),
          weight-one (SpliceResponse c n r.id) tt,
        )

  module _ {e o : List ℕ} where
    pub splice-accepted : {g : Given} {k : List ℕ} → n ≡ 100 → Admits new m e g k o → g.new ≡ new → g.accepted ≡ Some new
        → Splices clock c r m e g k o
    splice-accepted {g} {k} h a z y =
        let back = sym (granted h) in
        record {
          new = z ∙ asked;
          accepted =
              y ∙ ap Some asked
              ∙ ap (λ (b : Spliced). cond b.accepted (Some (requested c r (all m))) None) back;
          holds =
              ap (λ (s : Option Session). joined s (all k)) y
              ∙ ap (λ (v : List Verdict). v ++ (verdict Waits new ∷ [])) a.does.holds
              ∙ accepted-verdicts new (all m)
              ∙ ap (λ (b : Spliced). b.turn.verdicts) back;
          tells =
              subst (λ (rs : List Record). Tells e 0 rs g.len o)
              (accepted-written new (all m) ∙ ap (λ (b : Spliced). b.turn.written) back) a.does.tells;
          moved = a.moved ∙ ap (λ (b : Spliced). b.moved) back;
        }

    pub splice-declined : {len : ℕ} → (n ≡ 100 → ⊥) → Puts (SpliceResponse c n r.id) e len o
        → Splices clock c r m e (record { len = len; moved = 0; new = new; accepted = None }) m o
    splice-declined {len} h w =
        let back = sym (declined h) in
        record {
          new = asked;
          accepted = ap (λ (b : Spliced). cond b.accepted (Some (requested c r (all m))) None) back;
          holds = ap (λ (b : Spliced). b.turn.verdicts) back;
          tells = subst (λ (rs : List Record). Tells e 0 rs len o) (ap (λ (b : Spliced). b.turn.written) back) (tells_first w);
          moved = ap (λ (b : Spliced). b.moved) back;
        }

-- any two results that the promise allows are equal: verdicts, buffer and what is given
pub splices-same : {clock c : ℕ} {r : Request} {m e : List ℕ} {g g' : Given} {k k' o o' : List ℕ} → Splices clock c r m e g k o
    → Splices clock c r m e g' k' o'
    → (g ≡ g') × (all k ≡ all k') × (o ≡ o')
splices-same {clock} {c} {r} {m} {e} {g} {g'} {k} {k'} {o} {o'} a b =
    (given, same g.accepted (all k) (all k') held, written_same e 0 _ a.tells.bytes b.tells.bytes)
  where
    len : g.len ≡ g'.len
    len = a.tells.count ∙ sym b.tells.count

    moved : g.moved ≡ g'.moved
    moved = a.moved ∙ sym b.moved

    yes : g.accepted ≡ g'.accepted
    yes = a.accepted ∙ sym b.accepted

    new : g.new ≡ g'.new
    new = a.new ∙ sym b.new

    given : g ≡ g'
    given = λ i. record { len = len i; moved = moved i; new = new i; accepted = yes i }

    held : joined g.accepted (all k) ≡ joined g.accepted (all k')
    held = a.holds ∙ sym b.holds ∙ ap (λ (x : Option Session). joined x (all k')) (sym yes)

    same : (x : Option Session) (u v : List Verdict) → joined x u ≡ joined x v → u ≡ v
    same (Some s) u v h = append_cancel_right u v (verdict Waits s ∷ []) h
    same None u v h = h

-- ## The answer to an Abort_Request

module _ (c x : ℕ) (m : List ℕ) {b : Bool} (f : b ≡ holds c x (all m)) where
  abbrev says : ℕ → List Verdict → Turn
  says n = writes (AbortResponse c n x ∷ [])

  abort-on : b ≡ true → answer_abort c x (all m) ≡ and_then (says 100 (all m)) (aborted c x)
  unfolding answer_abort
  abort-on h = rw (← f, h) refl

  abort-off : b ≡ false → answer_abort c x (all m) ≡ says 121 (all m)
  unfolding answer_abort
  abort-off h = rw (← f, h) refl

  module _ (e : List ℕ) (room : Room (answer_abort c x) 0 m e) where
    pub abort-says : b ≡ true → 14 ≤ length e
    abort-says h = omega (arith, first-room (says 100 (all m)) (aborted c x) (abort-on h) e 0 room, weight-one (AbortResponse c 100 x) tt)

    pub abort-none : b ≡ false → 14 ≤ length e
    abort-none h = omega (arith, as_room (abort-off h) e 0 room, weight-one (AbortResponse c 121 x) tt)

    pub abort-unknown : {o : List ℕ} {len : ℕ} → b ≡ false → Puts (AbortResponse c 121 x) e len o → Does (answer_abort c x) 0 m e len m o
    abort-unknown h w = as-done (abort-off h) (says-one w)

    -- the 100 is written
    module _ {o : List ℕ} {len : ℕ} (h : b ≡ true) (w : Puts (AbortResponse c 100 x) e len o) where
      said : Turns e 0 (says 100 (all m)) m len o
      said = says-one w

      pub ends-room : length o ≡ length e → Room (aborted c x) len m o
      ends-room z = next-room (says 100 (all m)) (aborted c x) (abort-on h) e 0 room said z

      pub abort-done : {k o' : List ℕ} {to : ℕ} → Does (aborted c x) len m o to k o' → Does (answer_abort c x) 0 m e to k o'
      abort-done g = both-done (says 100 (all m)) (aborted c x) (abort-on h) e 0 room said g
