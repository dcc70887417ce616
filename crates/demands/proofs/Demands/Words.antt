-- The words of the statements in proofs/Demands and the laws that they rest on, each by the module that has it: handed on to that file.
pub use mathlib.Core.Path.{◌≡◌, refl}
pub use mathlib.Core.Bool.{true, false, cond}
pub use mathlib.Core.List.{List, [], ◌∷◌, ◌++◌, map}
pub use mathlib.Core.Logic.{◌⊎◌}
pub use Prim.Native.Nat.{ℕ, ◌+◌, ◌≤◌}
pub use lib.ListN.{length, take}
pub use Rattle.rules.specs.declared.Request.{Request}
pub use Rattle.rules.specs.declared.Refusal.{Refusal}
pub use Rattle.rules.specs.declared.Refusal.TheVariants.{BadName}
pub use Rattle.rules.specs.Lists.{All, count}
pub use Rattle.rules.specs.Follows.Wires.{Byte}
pub use Rattle.rules.specs.Bytes.{has_zero}
pub use Rattle.rules.specs.State.{Splicer}
pub use Rattle.rules.specs.Recent.{most_kept, recent}
pub use Rattle.rules.specs.Follows.ReadBack.{records_in}
pub use Rattle.rules.specs.Answers.{air_mux}
pub use Rattle.rules.specs.Splicing.{requested, splice_result}
pub use Rattle.rules.specs.Cues.{read_cue, cue_time, initialised_ones, cue_records}
pub use Rattle.rules.specs.HouseNumbers.{refused, refuse, written_by, Loans}
pub use Rattle.rules.specs.Calls.{named, fresh, Call, closes, messages, cues, call, after}
pub use Rattle.demands.specs.History.{Event, starts_of, ends_of, history, own_answer, others_of, waiting_count, book, clock_after}
pub use Rattle.rules.specs.Follows.Sound.{Each, Wired, Coded}
pub use Rattle.rules.proofs.Sound.{sound-size, sound-found}
pub use Rattle.rules.proofs.Codes.{call-coded}
pub use Rattle.demands.specs.Told.{FromFresh, Unchanged, first_number, checks, number_of, answers, Asks, Passes, earlier_code, full_told}
pub use Rattle.demands.specs.Told.{outs_of, started_told, unended, Ended, Stands, air_mux_told, MuxInRange, Inquires, Finds, conn_of}
pub use Rattle.demands.specs.Told.{concerned, Carries}
pub use Rattle.demands.specs.Alike.{Alike}
pub use Rattle.demands.proofs.Refusals.{unchanged, first-number, fresh-number, fresh-refused}
pub use Rattle.demands.proofs.Room.{from-sound, count_room, own-answer, passes-or-earlier, full-answer}
pub use Rattle.demands.proofs.Once.{all-ended}
pub use Rattle.demands.proofs.Aired.{ends-accepted, outs-started}
pub use Rattle.demands.proofs.Closed.{from_more, close-stands}
pub use Rattle.demands.proofs.Recalled.{extended-recalled, extended-of-told}
pub use Rattle.demands.proofs.Mux.{air-told, air-in-range, held-in-range}
pub use Rattle.demands.proofs.Cued.{cue-same, counts-nothing, told-records, to-whom, whole-section}
pub use Rattle.demands.specs.Lately.{of_number, answer_told, ended_once, KeptAs, ends_told}
pub use Rattle.demands.proofs.Lately.{lately-told, one-kept-each}
