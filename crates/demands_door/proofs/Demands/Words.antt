-- The words of the statements in proofs/Demands and the laws that they rest on, each by the module that has it: handed on to that file.
pub use mathlib.Core.Path.{◌≡◌, sym, ap, ◌∙◌, subst}
pub use mathlib.Core.Bool.{true, false, cond}
pub use mathlib.Core.List.{List, [], ◌∷◌, ◌++◌, map}
pub use mathlib.Core.Logic.{◌⊎◌}
pub use Prim.Native.Nat.{ℕ, ◌+◌, ◌-◌, ◌/◌, ◌≤◌, ◌<◌}
pub use native.Mathlib.Nat.{le_trans}
pub use lib.Dec.{eqb}
pub use lib.ListN.{length, take, get_or, replicate}
pub use Rattle.rules.specs.declared.Request.{Request}
pub use Rattle.rules.specs.Lists.{All, some, count}
pub use Rattle.rules.specs.Follows.Wires.{Byte}
pub use Rattle.rules.specs.Bytes.{has_zero}
pub use Rattle.rules.specs.Follows.ReadBack.{records_in}
pub use Rattle.rules.specs.Records.{General, ConfigResponse}
pub use Rattle.rules.specs.State.{empty, starts_at, starts_after, earliest, due, hardware_of}
pub use Rattle.rules.specs.Follows.Wires.{Sorted}
pub use Rattle.rules.specs.Recent.{most_kept, recent}
pub use Rattle.rules.specs.Hardware.{longest_hardware}
pub use Rattle.rules.specs.Follows.Sound.{Each, Falling, Coded}
pub use Rattle.rules.specs.Splicing.{requested, splice_result}
pub use Rattle.rules.specs.Cues.{read_cue, cue_time, initialised_ones, cue_records}
pub use Rattle.rules.specs.Calls.{fresh, after, section_of}
pub use Rattle.rules.specs.HouseNumbers.{lending_maps, Loans}
pub use Rattle.demands.specs.History.{Event, starts_of, ends_of, history, own_answer, others_of, waiting_count, book, clock_after}
pub use Rattle.demands.specs.Told.{first_number, checks, answers, Asks, Passes, earlier_code, full_told, counts_told, granted_by, outs_of}
pub use Rattle.demands.specs.Told.{
  started_told,
  unended,
  Ended,
  Stands,
  air_mux_told,
  MuxInRange,
  Inquires,
  Finds,
  conn_of,
  concerned,
  Carries,
}
pub use Rattle.demands.specs.Alike.{Alike}
pub use Rattle.demands.specs.Lately.{of_number, answer_told, ended_once, KeptAs, ends_told}
pub use Rattle.demands.specs.Airing.{airings_told, clock_told, primary_told, time_told, air_told, number_told}
pub use Rattle.demands.specs.Kept.{kept_told, changed, AsksConfig, AsksAlive, Ready, state_in}
pub use Rattle.demands.specs.Moments.{Gapless, Printed, Within, PlayedAs}
pub use Rattle.places.specs.Places.{round, next}
pub use Rattle.memory.specs.Memory.{see, places_from, counts_of, kept_bytes, late_of}
pub use Rattle.engine.specs.Lent.{Lent, Counts, Primary, ReadsMux, ReadsFeed}
pub use Rattle.door.specs.Door.{Input, an_open, a_close, a_message, a_cue, pts_of, Typed, call_of, buffer_of, Seen, Allowed}
pub use Rattle.demands_engine.specs.Trace.{Memory, empty_memory, shown}
pub use Rattle.demands_engine.specs.Trace as engine
pub use Rattle.demands_engine.proofs.Steps.{memory-same}
pub use Rattle.demands_engine.proofs.Closed.{not_full, unended-newer}
pub use Rattle.demands_engine.proofs.Demands as called
pub use Rattle.demands_door.specs.Driven.{left, Made, made, Trace, More, Point, number_in, number, moved_in, moved, bytes_of, reply_in}
pub use Rattle.demands_door.specs.Driven.{events, calls, inputs, Answerable, Run, AsRuled, inside, within}
pub use Rattle.demands_door.proofs.Inside.{trace-inside, trace-events, more-inside, within-append, calls-inside, call-handed}
pub use Rattle.demands_door.proofs.Inside.{buffer-handed, number-inside, moved_inside, bytes_inside, reply-inside, reply-ruled}
pub use Rattle.demands_door.proofs.Inside.{allowed-inside}
pub use Rattle.door.proofs.Laws.{refused-unchanged}
pub use Rattle.door.proofs.Page.{page-shown}
pub use Rattle.rows.specs.declared.Row.{Row}
pub use Rattle.rows.specs.Rows.{rows, Pages, rows_of}
pub use Rattle.rows.proofs.Laws.{page-filled}
pub use Rattle.rules.proofs.Sound.{reached-sound}
pub use Rattle.demands_engine.proofs.Course.{trace-lent}
pub use Rattle.demands_door.proofs.Course.{answerable, runs, trace-more, trace-point, trace-same}
pub use Rattle.std.specs.Prelude.{Some}
