-- The definitions that the tables are computed with, made by tools/cases.sh: `unfolding computing` unfolds them all.
use Rattle.std.specs.Prelude.{ℕ}
use Rattle.rules.specs.Lists
use Rattle.rules.specs.Bytes
use Rattle.rules.specs.State
use Rattle.rules.specs.Recent
use Rattle.rules.specs.Descriptors
use Rattle.rules.specs.Streams
use Rattle.rules.specs.Request
use Rattle.rules.specs.Reading
use Rattle.rules.specs.Records
use Rattle.rules.specs.Ends
use Rattle.rules.specs.Instants
use Rattle.rules.specs.Splicing
use Rattle.rules.specs.Answers
use Rattle.rules.specs.Crc
use Rattle.rules.specs.Cues
use Rattle.rules.specs.HouseNumbers
use Rattle.rules.specs.Calls
use Rattle.rules.specs.Listing
use Rattle.rules.specs.Card
use Rattle.rules.specs.Follows.ReadBack
use Rattle.rules.specs.Follows.Sequences
use Rattle.demands.specs.History
use Rattle.demands.specs.Airing
use Rattle.cases.specs.Scenario.{digit, hex, row, input, output, joined, each_step, each_run}
use Rattle.cases.specs.Scenario.{outputs, one_more, calls_in, size, same, Fits, Written}

unfoldable pub computing : ℕ
unfolding digit hex row input output joined each_step each_run outputs one_more calls_in size same Fits Written Lists.place
    Lists.insert_at Lists.remove_at Bytes.bytes Bytes.value_from Bytes.value Bytes.written State.empty State.due Recent.remembered
    Recent.remembered_all Recent.recent_at Recent.recent_from Recent.recent Descriptors.mux_from Streams.behind Streams.streams_in
    Streams.separate_in Streams.rest_of Streams.stream_bytes Streams.streams_bytes Streams.separate_bytes Request.read_start
    Request.tail_of Request.read_whole Request.read_splice Reading.read_init Reading.read_alive Reading.read_abort
    Reading.read_extended Reading.read_config Reading.read Records.framed Records.record_bytes Records.output Ends.and_then
    Ends.endings Ends.walk Ends.followers Ends.dismissed Ends.evicted_at Ends.evicted Ends.cancelled Ends.aborted Ends.closed_by
    Instants.may_start Instants.meets_equal Instants.ousted Instants.launched Instants.start_at Instants.end_at Instants.instant
    Instants.on_air Instants.elapse Instants.run Instants.run_all Instants.silent Instants.silent_all Splicing.start_of
    Splicing.session_at Splicing.requested Splicing.unknown_prior Splicing.too_late Splicing.collides Splicing.full
    Splicing.splice_result Splicing.inserted Splicing.accepted Splicing.later Splicing.answer_splice Answers.init_result
    Answers.answer_init Answers.air_state Answers.air_id Answers.air_mux Answers.air_row Answers.alive_response Answers.air_feed
    Answers.config_response Answers.answer_abort Answers.latest Answers.extended_response Answers.answer_read Answers.answer
    Crc.crc_bit Crc.crc_bits Crc.crc_from Crc.crc Cues.read_signal Cues.read_program Cues.read_insert Cues.read_command Cues.read_cue
    Cues.ticks_after Cues.exact_time Cues.wire_time_of Cues.cue_time Cues.initialised_ones Cues.cue_records HouseNumbers.house_number
    HouseNumbers.written_by HouseNumbers.consumed_by HouseNumbers.buffer_after Calls.named Calls.fresh Calls.open_call Calls.close_call
    Calls.framing Calls.handled Calls.message_call Calls.ticked Calls.move_call Calls.tick_call Calls.due_row Calls.cue_call Calls.call
    Calls.after Listing.started_state Listing.session_row Listing.session_rows Listing.held_rows Card.card_name Card.next_message
    Card.next_tick Card.next Card.told Card.card_step Card.card_run Card.card ReadBack.record_in ReadBack.records_up_to
    ReadBack.records_in Sequences.answers Sequences.rolling_fresh Sequences.rolled_after Sequences.as_calls Sequences.as_moves
    Sequences.roll_answers History.is_start History.is_end History.is_yes History.history History.front History.last History.others_of
    History.wait_answered History.wait_after History.wait_replied History.waiting_told History.waiting_count History.credited
    History.last_told History.start_told History.end_asked History.mux_asked History.event_asked History.prior_asked
    History.overrides_asked History.entry_of History.book_answered History.shut History.book_after History.book_replied History.book
    History.clock_replied History.clock_after Airing.newest Airing.lists Airing.says_played Airing.heard Airing.by_then
    Airing.heard_all Airing.start_asked Airing.airing_asked Airing.aired_answered Airing.aired_after Airing.aired_replied
    Airing.airings Airing.during Airing.primary_time Airing.air_time
computing = 0
