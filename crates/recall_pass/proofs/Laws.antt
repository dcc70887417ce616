-- What holds of a pass from fresh on, and that its answers are those of the rules. Rests on recall_rules' equality with the two ordered
-- lists
-- and on what rules prove of every splicer that fresh and the calls since have given.
use mathlib.Core.Path.{◌≡◌, refl, sym, subst}
use mathlib.Core.List.{List, [], ◌∷◌, ◌++◌}
use Prim.Native.Nat.{ℕ}
use native.Mathlib.Omega.{arith}
use Rattle.rules.specs.Lists.{All}
use Rattle.rules.specs.Follows.Wires.{Byte}
use Rattle.rules.specs.Bytes.{padded}
use Rattle.rules.specs.Card.{card_name}
use Rattle.rules.specs.Calls as calls
use Rattle.rules.specs.Calls.{Call}
use Rattle.rules.specs.Follows.Sound.{Sound, Wired}
use Rattle.rules.proofs.Bytes.{padded-byte}
use Rattle.rules.proofs.Sound.{sound-fresh, sound-call}
use Rattle.recall_rules.specs.Calls.{Pass, call, begun, passed}
use Rattle.recall_rules.proofs.Calls.{SameCalled, call_same, begun-same}
use Rattle.recall_rules.proofs.Twice.{answers-like-the-rules}
use Rattle.recall_rows.specs.Rows.{Fits}
use Rattle.recall_answers.specs.declared.Carried.{Carried}
use Rattle.recall_log.specs.Log.{kept_calls}
use Rattle.recall_log.proofs.Logs.{any-log}
use Rattle.recall_pass.specs.Passes.{pass_in, splicer_of, Steady, Ready, Passed}

-- ## From fresh on

name-bytes : All Byte card_name
unfolding card_name
name-bytes = (omega arith, (omega arith, (omega arith, tt)))

named-sound : Sound (calls.named card_name)
unfolding calls.fresh card_name
named-sound = sound-fresh (padded card_name) refl (padded-byte card_name name-bytes)

pub steady-begun : Steady (begun card_name)
steady-begun =
    let z = calls.named card_name in
    let m = begun-same card_name in
    record { primary = z.primary; queue = z.queue; shows = m.shows; sound = subst Sound m.splicer named-sound }

pub steady-call : (k : Call) {s : Pass} → Wired k → Steady s → Steady (call k s).pass
steady-call k {s} w t =
    let z = splicer_of s t.primary t.queue in
    let a = (call_same k s z (record { splicer = refl; shows = t.shows }) t.sound).state in
    let y = (calls.call k z).splicer in
    record { primary = y.primary; queue = y.queue; shows = a.shows; sound = subst Sound a.splicer (sound-call z k w t.sound) }

-- what a call relies on
pub steady-ready : (l : List ℕ) (h : Carried) (m : List ℕ) → Fits h.rows m → Steady (pass_in l h m) → Ready h m
steady-ready l h m f t =
    record { fits = f; keeps = record { queue = t.queue; shows = t.shows; holding = t.sound.holding }; clock = t.sound.clock }

pub passed-last : (ks : List Call) (k : Call) (s : Pass) → passed (ks ++ (k ∷ [])) s ≡ (call k (passed ks s)).pass
unfolding passed
passed-last [] k s = refl
passed-last (j ∷ ks) k s = passed-last ks k (call j s).pass

-- ## Behind all calls of a log

module _ {l : List ℕ} {h : Carried} {m : List ℕ} (p : Passed l h m) where
  pub passed-ready : Ready h m
  passed-ready = steady-ready l h m (omega (arith, p.fits)) p.steady

  -- the present call is answered as the splicer answers it that the calls in the log lead to from fresh
  pub passed-answers : All Byte l → (k : Call) → SameCalled (call k (pass_in l h m))
      (calls.call k (calls.after (kept_calls l) (calls.fresh (padded card_name)).splicer))
  unfolding card_name
  passed-answers a k =
      subst (λ (s : Pass). SameCalled (call k s) (calls.call k (calls.after (kept_calls l) (calls.fresh (padded card_name)).splicer)))
      (sym p.pass)
      (answers-like-the-rules (padded card_name) refl (padded-byte card_name name-bytes) refl (kept_calls l) (any-log l a).0 k)
