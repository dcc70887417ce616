-- 02, CR 11: the number of places shifted that a call reports. Rests on the cases of a call (Cases), on the answer to a Splice_Request
-- (Room) and on what an acceptance shifts (rules' Moves).
use mathlib.Core.Path.{◌≡◌, refl}
use mathlib.Core.Bool.{false}
use mathlib.Core.List.{List, [], ◌∷◌, ◌++◌}
use Prim.Native.Nat.{ℕ, ◌≤◌}
use native.Mathlib.Omega.{arith}
use lib.ListN.{length}
use Rattle.rules.specs.declared.Request.{Request}
use Rattle.rules.specs.Lists.{count}
use Rattle.rules.specs.Follows.ReadBack.{data_in}
use Rattle.rules.specs.State.{Splicer, starts_after}
use Rattle.rules.proofs.Checks.{read-id}
use Rattle.rules.specs.Follows.ReadBack.{records_in}
use Rattle.rules.specs.Ends.{and_then, evicted}
use Rattle.rules.specs.Splicing.{session_at, requested, splice_result, accepts, accepted, answer_splice}
use Rattle.rules.specs.Calls.{ticked, Call, messages, call}
use Rattle.rules.specs.HouseNumbers.{Loans, written_by}
use Rattle.rules.specs.Follows.Sound.{Wired}
use Rattle.rules.proofs.Tests.{clash, eqb_same}
use Rattle.rules.proofs.Fitted.{records_of}
use Rattle.rules.proofs.Sound.{few-wait, sound-call, sound-found}
use Rattle.rules.proofs.Moves.{later-after, later-fewer}
use Rattle.demands.specs.History.{Event, is_yes, last}
use Rattle.demands.specs.Told.{FromFresh, Asks, granted_by}
use Rattle.demands.proofs.Waiting.{last-last}
use Rattle.demands.proofs.Cases.{cases}
use Rattle.demands.proofs.Room.{from-sound, splice-call}

module _ (s : Splicer) where
  -- "A request not accepted reports 0", nor does any other call report more
  none-moved : (k : Call) → granted_by k (records_of (call k s).answer) ≡ false → (call k s).moved ≡ 0
  unfolding granted_by last accepted and_then is_yes requested session_at ticked
  none-moved =
      cases s (λ k r. granted_by k (records_of r.answer) ≡ false → r.moved ≡ 0) (record {
        refusing = λ k n g. refl;
        opening = λ c low e g. refl;
        closing = λ c room low e g. refl;
        saying = λ c l loans n rs e p g. refl;
        naming = λ c l loans n r hw e p g. refl;
        aborting = λ c l loans n x e i g. refl;
        declining = λ c l loans n r e y o g. refl;
        accepting = λ c l loans n r e f p g. let new = requested c r s.queue in
            let rs = (evicted new.start.0 s.queue).written in
            absurd (clash (granted_by (messages c l loans) (rs ++ (accepts new ∷ [])))
            (rw (e, ← (read-id (data_in l) r f), last-last (is_yes c r.id) rs (accepts new), eqb_same c, eqb_same r.id)) g);
        ticking = λ seconds micros room le g. refl;
        moving = λ until room le g. refl;
        cueing = λ l pts seconds micros room rs p g. refl;
      })

  -- one fewer than wait after the call, or none
  moved-few : (k : Call) → length (call k s).splicer.queue.waiting ≤ 64 → (call k s).moved ≤ 63
  unfolding ticked
  moved-few =
      cases s (λ k r. length r.splicer.queue.waiting ≤ 64 → r.moved ≤ 63) (record {
        refusing = λ k n h. omega arith;
        opening = λ c low e h. omega arith;
        closing = λ c room low e h. omega arith;
        saying = λ c l loans n rs e p h. omega arith;
        naming = λ c l loans n r hw e p h. omega arith;
        aborting = λ c l loans n x e i h. omega arith;
        declining = λ c l loans n r e y o h. omega arith;
        accepting = λ c l loans n r e f p h. omega (arith, h, later-fewer (requested c r s.queue) s.queue);
        ticking = λ seconds micros room le h. omega arith;
        moving = λ until room le h. omega arith;
        cueing = λ l pts seconds micros room rs p h. omega arith;
      })

module _ (h : List Event) (s : Splicer) (f : FromFresh h s) (k : Call) (w : Wired k) where
  pub unmoved-else : granted_by k (records_in (written_by (call k s).answer)) ≡ false → (call k s).moved ≡ 0
  unmoved-else g = none-moved s k (rw (sound-found s k w (from-sound h s f)) at g)

  pub at-most-63 : (call k s).moved ≤ 63
  at-most-63 = moved-few s k (few-wait (sound-call s k w (from-sound h s f)).holding)

-- "It equals the waiting sessions, after any eviction, whose start is later than the new one's": of those that wait after the call
pub moved-is-later : (c : ℕ) (l : List ℕ) (loans : Loans) (r : Request) (s : Splicer) → Asks c l loans r s
    → splice_result s.clock c r (requested c r s.queue) s.queue ≡ 100
    → let k = call (messages c l loans) s in
    k.moved ≡ count (starts_after (requested c r s.queue).start.0) k.splicer.queue.waiting
unfolding answer_splice
moved-is-later c l loans r s a e = rw (splice-call c l loans r s a, e) (later-after (requested c r s.queue) s.queue)
