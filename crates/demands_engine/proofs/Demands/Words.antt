-- The words of the statements in proofs/Demands and the laws that they rest on, each by the module that has it: handed on to that file.
pub use mathlib.Core.Path.{◌≡◌, refl, sym, ap, subst, ◌∙◌}
pub use mathlib.Core.Bool.{true, false, cond}
pub use mathlib.Core.List.{List, [], ◌∷◌, ◌++◌, map}
pub use mathlib.Core.Logic.{◌⊎◌}
pub use Prim.Native.Nat.{ℕ, ◌+◌, ◌-◌, ◌/◌, ◌≤◌, ◌<◌}
pub use native.Mathlib.Omega.{arith}
pub use native.Mathlib.Nat.{le_trans}
pub use lib.Dec.{eqb}
pub use lib.ListN.{length, take, get_or, replicate}
pub use Rattle.rules.specs.declared.Request.{Request}
pub use Rattle.rules.specs.Lists.{All, some, count}
pub use Rattle.rules.specs.Follows.Wires.{Byte}
pub use Rattle.rules.specs.Bytes.{has_zero}
pub use Rattle.rules.specs.Follows.ReadBack.{records_in}
pub use Rattle.rules.specs.Records.{General, ConfigResponse}
pub use Rattle.rules.specs.State.{Splicer, hardware_of, empty, starts_at, starts_after, sooner, earliest}
pub use Rattle.rules.specs.Follows.Wires.{Sorted}
pub use Rattle.rules.specs.Recent.{most_kept, recent}
unfoldable pub use Rattle.rules.specs.State.{due}
pub use Rattle.rules.specs.Hardware.{longest_hardware}
pub use Rattle.rules.specs.Follows.Sound.{Each, Later, Falling, Coded}
pub use Rattle.rules.specs.Splicing.{requested, splice_result}
pub use Rattle.rules.specs.Cues.{read_cue, cue_time, initialised_ones, cue_records}
pub use Rattle.rules.specs.Calls.{fresh, after, messages, call, section_of}
pub use Rattle.rules.specs.HouseNumbers.{lending_maps, written_by, Loans}
pub use Rattle.rules.proofs.All.{all-into}
pub use Rattle.rules.proofs.Sound.{reached-sound}
pub use Rattle.rules.proofs.Tick.{earliest-start}
pub use Rattle.demands.specs.History.{Event, starts_of, ends_of, history, own_answer, others_of, waiting_count, book, clock_after}
pub use Rattle.engine.specs.Lent.{Answer}
pub use Rattle.std.specs.Prelude.{Err, Ok}
pub use Rattle.places.specs.Places.{round, next}
pub use Rattle.memory.specs.Memory.{see, places_from, counts_of, kept_bytes}
unfoldable pub use Rattle.memory.specs.Memory.{tallied}
pub use Rattle.engine.specs.Lent.{Lent, Counts, Primary, ReadsMux, ReadsFeed}
pub use Rattle.demands.specs.Told.{first_number, checks, answers, Asks, Passes, earlier_code, full_told, counts_told, granted_by, outs_of}
pub use Rattle.demands.specs.Told.{
  started_told,
  unended,
  Ended,
  Stands,
  air_mux_told,
  MuxInRange,
  Inquires,
  Finds,
  conn_of,
  concerned,
  Carries,
}
pub use Rattle.demands.specs.Alike.{Alike}
pub use Rattle.demands.specs.Lately.{of_number, answer_told, ended_once, KeptAs, ends_told}
pub use Rattle.demands.specs.Airing.{airings_told, clock_told, primary_told, time_told, air_told, number_told}
pub use Rattle.demands.specs.Kept.{kept_told, changed, AsksConfig, AsksAlive, Ready, state_in}
pub use Rattle.demands.specs.Moments.{Gapless, Printed, Within, PlayedAs}
pub use Rattle.demands.proofs.Demands as told
pub use Rattle.demands.proofs.Waiting.{waiting-counted}
pub use Rattle.demands.proofs.Moved as shifting
pub use Rattle.demands.proofs.Owners as owners
pub use Rattle.demands.proofs.Said as said
pub use Rattle.demands.proofs.Kept as kept
pub use Rattle.demands_engine.specs.Trace.{
  Memory,
  empty_memory,
  shown,
  Input,
  an_open,
  a_close,
  a_message,
  a_cue,
  Typed,
  call_of,
  buffer_of,
}
pub use Rattle.demands_engine.specs.Trace.{Result, Allowed, Made, made, Leads, Trace, More, Point, number, moved_in, moved, bytes_of}
pub use Rattle.demands_engine.specs.Trace.{reply_in, events, calls, inputs, Answerable, Run, AsRuled}
unfoldable pub use Rattle.demands_engine.specs.Trace.{number_in}
pub use Rattle.demands_engine.proofs.Steps.{wired, promised, as-ruled, replied, number_is, number-first, unchanged}
pub use Rattle.demands_engine.proofs.Course.{events-append, led-wired, led-heard, trace-lent, trace-history, trace-told, trace-more}
pub use Rattle.demands_engine.proofs.Course.{trace-point, trace-same, fresh-number, fresh-empty}
pub use Rattle.demands_engine.proofs.Closed.{not_full, closed-stands, unended-newer}
pub use Rattle.demands_engine.proofs.Kept.{close-low, forgotten}
pub use Rattle.demands_engine.proofs.Answerable.{answerable, runs}
pub use Rattle.demands_engine.proofs.Moved.{moved-is, fresh-none, last_code, others-stay}
pub use Rattle.demands_engine.proofs.Cued.{memory-stays}
pub use Rattle.std.specs.Prelude.{None, Some}
