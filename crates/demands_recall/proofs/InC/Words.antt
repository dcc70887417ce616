-- The words of the statements in proofs/InC and the laws that they rest on, each by the module that has it: handed on to that file.
pub use mathlib.Core.Path.{◌≡◌, refl, sym, subst, ap, ap₂, ◌∙◌}
pub use mathlib.Core.Bool.{Bool, true, false, ◌||◌}
pub use mathlib.Core.List.{List, [], ◌∷◌, ◌++◌, append-nil, append_assoc}
pub use Prim.Native.Nat.{ℕ}
pub use lib.Dec.{eqb}
pub use lib.ListN.{length}
pub use Rattle.rules.specs.declared.Refusal.{Refusal}
pub use Rattle.rules.specs.declared.Refusal.TheVariants.{NoConnection, NoRoom, ClockBack, Oversize, Short, AlreadyOpen, NotOpen, BadMicros}
pub use Rattle.rules.specs.declared.Refusal.TheVariants.{BadName, Counter, LongSection, BadSection, NotSixteen}
pub use Rattle.rules.specs.Lists.{All, put}
pub use Rattle.rules.specs.State.{Splicer}
pub use Rattle.rules.specs.Calls.{Call, call}
unfoldable pub use Rattle.rules.specs.HouseNumbers.{house_number}
pub use Rattle.rules.specs.Follows.Sound.{Wired}
pub use Rattle.rules.proofs.Tests.{by}
pub use Rattle.memory.specs.Memory.{shown}
pub use Rattle.engine.specs.Lent.{Answer}
pub use Rattle.door.specs.Door.{Input, an_open, a_close, a_message, a_tick, a_cue, Typed, call_of, buffer_of, Allowed}
unfoldable pub use Rattle.door.specs.Door.{reply_of}
pub use Rattle.std.specs.Prelude.{Ok, Err}
pub use Rattle.recall_log.specs.declared.Refused.TheVariants.{Full, Rule}
pub use Rattle.recall_log.specs.Log.{kept_calls, log_length, other_length, full}
pub use Rattle.recall_log.specs.Kept.{Reply, Its, kept_form}
unfoldable pub use Rattle.recall_log.specs.Kept.{number_of}
pub use Rattle.recall.specs.Recall.{spent, Remembers}
unfoldable pub use Rattle.recall.specs.Recall.{begun}
pub use Rattle.recall.proofs.Steps.{Leads}
pub use Rattle.recall.proofs.Recalls as recall-laws
pub use Rattle.recall.proofs.Recalls.{neat-is}
pub use Rattle.door_bench.specs.Bench.{Tells, TellsFresh}
unfoldable pub use Rattle.door_bench.specs.Bench.{reply_words}
pub use Rattle.demands_recall.specs.Sides as sides
pub use Rattle.demands_recall.specs.Sides.{Pair}
unfoldable pub use Rattle.demands_recall.specs.Sides.{is_done}
unfoldable pub use Rattle.demands_recall.specs.Beside.{as_reply}
pub use Rattle.demands_recall.specs.InC.{Recollection, Both, Recollects, Course, Beside, Alike, number_in, is13, until13, None13}
pub use Rattle.demands_recall.specs.InC.{log_after, good_ones, LikeTheCard}
pub use Rattle.demands_recall.proofs.Sides as both
pub use Rattle.demands_recall.proofs.Sides.{Step, full-13, step_same, step-leads, step-calls, put-append, begins, none_kept}
pub use Rattle.demands_recall.proofs.Sides.{thirteen, fresh-same}
pub use Rattle.demands_recall.proofs.Alike.{as-ruled}
