-- The words of the statements in proofs/Demands and the laws that they rest on, each by the module that has it: handed on to that file.
pub use mathlib.Core.Path.{◌≡◌, sym, ap, subst, ◌∙◌}
pub use mathlib.Core.Bool.{true, false, cond}
pub use mathlib.Core.List.{List, [], ◌∷◌, ◌++◌, map}
pub use mathlib.Core.Logic.{◌⊎◌}
pub use Prim.Native.Nat.{ℕ, ◌+◌, ◌-◌, ◌*◌, ◌/◌, ◌%◌, ◌≤◌, ◌<◌}
pub use native.Mathlib.Omega.{arith}
pub use native.Mathlib.Nat.{le_trans}
pub use lib.Dec.{eqb}
pub use lib.ListN.{length, take, get_or, replicate}
pub use Rattle.rules.specs.declared.Request.{Request}
pub use Rattle.rules.specs.Lists.{All, some, count}
pub use Rattle.rules.specs.Follows.Wires.{Byte}
pub use Rattle.rules.specs.Bytes.{has_zero}
pub use Rattle.rules.specs.Follows.ReadBack.{records_in}
pub use Rattle.rules.specs.Records.{General, ConfigResponse}
pub use Rattle.rules.specs.Splicing.{requested, splice_result}
pub use Rattle.rules.specs.Units.{time_of, from_micros}
pub use Rattle.rules.specs.Cues.{read_cue, cue_time, initialised_ones, cue_records}
pub use Rattle.rules.specs.Calls.{fresh, after, section_of}
pub use Rattle.rules.specs.HouseNumbers.{lending_maps, Loans}
pub use Rattle.rules.specs.State.{empty, starts_at, starts_after, earliest, due, hardware_of}
pub use Rattle.rules.specs.Follows.Wires.{Sorted}
pub use Rattle.rules.specs.Recent.{most_kept, recent}
pub use Rattle.rules.specs.Hardware.{longest_hardware}
pub use Rattle.rules.specs.Units.{horizon}
pub use Rattle.rules.specs.Follows.Sound.{Each, Falling, Coded}
pub use Rattle.rules.specs.Rolling.{none, Rolling, step_of, instants, readings, roll}
pub use Rattle.rules.specs.Follows.Sequences.{rolling_of, rolling_fresh, rolled_after, as_moves}
pub use Rattle.demands.specs.History.{starts_of, ends_of, history, own_answer, waiting_count, book, clock_after}
pub use Rattle.demands.specs.Told.{
  first_number,
  number_of,
  answers,
  Asks,
  Passes,
  earlier_code,
  full_told,
  counts_told,
  outs_of,
  started_told,
}
pub use Rattle.demands.specs.Told.{unended, Ended, Stands, air_mux_told, MuxInRange, Inquires, Finds, conn_of, concerned, Carries}
pub use Rattle.demands.specs.Alike.{Alike}
pub use Rattle.demands.specs.Lately.{of_number, answer_told, ended_once, KeptAs, ends_told}
pub use Rattle.demands.specs.Airing.{airings_told, clock_told, primary_told, time_told, air_told, number_told}
pub use Rattle.demands.specs.Kept.{kept_told, AsksConfig, AsksAlive, Ready, state_in}
pub use Rattle.demands.specs.Moments.{Gapless, Printed, Within, PlayedAs}
pub use Rattle.places.specs.Places.{round}
pub use Rattle.places.specs.Places as places
pub use Rattle.memory.specs.Memory.{see, places_from, counts_of, kept_bytes, late_of}
pub use Rattle.engine.specs.Lent.{Counts, Primary, ReadsMux, ReadsFeed}
pub use Rattle.rolling.specs.Ruled.{roll_checks, Act, InTime, ticked, calls_at}
pub use Rattle.rolling.proofs.Time as time
pub use Rattle.door.specs.Door.{an_open, a_close, a_message, a_cue, pts_of}
pub use Rattle.door_rolling.specs.RollDoor.{RollInput, a_known, RollTyped, roll_call_of, roll_buffer_of, RollSeen}
pub use Rattle.demands_engine.specs.Trace as engine
pub use Rattle.demands_engine.proofs.Closed.{not_full, unended-newer}
pub use Rattle.demands_engine.proofs.Course as core
pub use Rattle.demands_engine.proofs.Demands as called
pub use Rattle.rules.proofs.Sound.{reached-sound}
pub use Rattle.rows.specs.declared.Row.{Row}
pub use Rattle.rows.specs.Rows.{rows, Pages, rows_of}
pub use Rattle.rows.proofs.Laws.{page-filled}
pub use Rattle.door.proofs.Page.{page-shown}
pub use Rattle.demands_door.specs.Driven.{number_in, moved_in, reply_in, inside}
pub use Rattle.demands_door.proofs.Inside.{number-inside, bytes_inside, allowed-inside}
pub use Rattle.demands_rolling.specs.Rolled.{Memory, shown, empty_memory, LentAt, left, Made, made, AllowedAt, Trace, More, Point}
pub use Rattle.demands_rolling.specs.Rolled.{seen_of, number, moved, bytes_of, calls, inputs, others_by, grants, changes, events}
pub use Rattle.demands_rolling.specs.Rolled.{AsRuled, Answerable, Run}
unfoldable pub use Rattle.demands_rolling.specs.Rolled.{within}
pub use Rattle.demands_rolling.proofs.Inside.{trace-lent, trace-inside, trace-shown, trace-calls, within-append, fresh-told}
pub use Rattle.demands_rolling.proofs.Inside.{fresh-moved, fresh-counter, known_more, calls-after}
pub use Rattle.demands_rolling.proofs.Course.{answerable, runs, trace-more, trace-point, trace-same}
pub use Rattle.demands_rolling.proofs.Next.{as-ruled, number-first, unchanged, Next, silent, calls-of, next, bytes-are, moved-are}
pub use Rattle.demands_rolling.proofs.Next.{reply-are, within_more, none-ends, none-outs, none-long, none-coded, none-played}
pub use Rattle.std.specs.Prelude.{Some}
