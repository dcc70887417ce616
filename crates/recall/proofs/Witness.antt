-- A log that is full, and a call that is refused where it is not: `thirteen-leaves` and `refused-leaves` speak of something.
-- Rests on Recalls.
use mathlib.Core.Path.{◌≡◌, refl, ap, ◌∙◌}
use mathlib.Core.Bool.{true, false}
use mathlib.Core.List.{List, []}
use Prim.Native.Nat.{ℕ}
use lib.ListN.{length, replicate, length-replicate}
use Rattle.rules.specs.declared.Refusal.TheVariants.{NoConnection}
use Rattle.rules.specs.Calls.{opens, open_call, call}
use Rattle.std.specs.Prelude.{Err}
use Rattle.recall_log.specs.declared.Refused.TheVariants.{Rule}
use Rattle.recall_log.specs.Log.{log_length, other_length, full}
use Rattle.recall_log.specs.Kept.{reply_of, cleared}
use Rattle.recall_log.proofs.Appends.{cleared-calls}
use Rattle.recall.specs.Recall.{told_by, recall_call, spent}
use Rattle.recall.proofs.Recalls.{full-spent}

-- zeros, as fresh leaves them
abbrev pub log : List ℕ
log = cleared (replicate log_length 0)

pub not_full : full log ≡ false
unfolding cleared spent
not_full =
    full-spent log (length-replicate {A = ℕ} (length (replicate {A = ℕ} log_length 0)) 0 ∙ length-replicate {A = ℕ} log_length 0)
    ∙ ap spent (cleared-calls (replicate log_length 0))

-- there is no connection 4
pub refuses : (recall_call (opens 4) log).told.reply ≡ Err (Rule NoConnection)
unfolding recall_call told_by reply_of call open_call
refuses = rw not_full

-- a log of no bytes
pub is-full : full [] ≡ true
unfolding full other_length
is-full = refl
