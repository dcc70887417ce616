-- The words of the statements in proofs/Alike and the laws that they rest on, each by the module that has it: handed on to that file.
pub use mathlib.Core.Path.{◌≡◌, refl, sym, subst, ap, ◌∙◌}
pub use mathlib.Core.Bool.{true, ◌||◌}
pub use mathlib.Core.List.{List, [], ◌∷◌}
pub use Prim.Native.Nat.{ℕ}
pub use lib.ListN.{length}
pub use Rattle.rules.specs.State.{Splicer}
pub use Rattle.rules.specs.HouseNumbers.{Answer, refused, good}
pub use Rattle.rules.specs.Calls.{call}
pub use Rattle.recall_log.specs.Log.{log_length, other_length}
unfoldable pub use Rattle.recall_log.specs.Kept.{reply_of}
unfoldable pub use Rattle.engine.specs.Lent.{answer_of}
pub use Rattle.demands_engine.specs.Trace.{Memory, shown, Input, call_of, buffer_of}
pub use Rattle.demands_engine.proofs.Steps.{wired, promised}
pub use Rattle.recall.specs.Recall.{spent}
unfoldable pub use Rattle.recall.specs.Recall.{begun}
pub use Rattle.demands_recall.specs.Sides.{is13, log_after, good_ones, LikeTheCard}
pub use Rattle.demands_recall.specs.Beside.{Recollection, Both, Recollects, Course, Beside, pairs}
unfoldable pub use Rattle.demands_recall.specs.Beside.{as_reply}
pub use Rattle.demands_recall.proofs.Sides as both
pub use Rattle.demands_recall.proofs.Sides.{like-the-card, thirteen, fresh-same}
