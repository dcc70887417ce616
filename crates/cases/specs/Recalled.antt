-- 02, CR 12: the second engine's rules on the scenarios: the bytes of each call, through a list of verdicts that is kept in no order, give
-- the bytes that the scenario wants, which were worked by hand from the documents. Assumes nothing.
use Rattle.std.specs.Prelude.{◌≡◌, refl, List, [], ◌++◌, ℕ, zero, suc, length}
use Rattle.rules.specs.Card.{card_name, Next, calls, ends, stops, next, told}
use Rattle.recall_rules.specs.Verdicts
use Rattle.recall_rules.specs.Work
use Rattle.recall_rules.specs.Calls
use Rattle.recall_rules.specs.Calls.{Pass, begun, call}
use Rattle.cases.specs.Scenario.{input, output}
use Rattle.cases.specs.Computing.{computing}
use Rattle.cases.specs.Case01CardCutHeader as s01cardcutheader
use Rattle.cases.specs.Case01CardCutMark as s01cardcutmark
use Rattle.cases.specs.Case01CardCutMessage as s01cardcutmessage
use Rattle.cases.specs.Case01CardCutTick as s01cardcuttick
use Rattle.cases.specs.Case01CardOversizeClosed as s01cardoversizeclosed
use Rattle.cases.specs.Case01CardOversizeNoConnection as s01cardoversizenoconnection
use Rattle.cases.specs.Case01CardOversizeOpen as s01cardoversizeopen
use Rattle.cases.specs.Case01CardUnknownMark as s01cardunknownmark
use Rattle.cases.specs.Case01CloseOrder as s01closeorder
use Rattle.cases.specs.Case01CoveredFollower as s01coveredfollower
use Rattle.cases.specs.Case01EndOfTime as s01endoftime
use Rattle.cases.specs.Case01EndOfTimeOnAir as s01endoftimeonair
use Rattle.cases.specs.Case01EndsBeforeStart as s01endsbeforestart
use Rattle.cases.specs.Case01EveryByte as s01everybyte
use Rattle.cases.specs.Case01EvictionFollowers as s01evictionfollowers
use Rattle.cases.specs.Case01HouseNumber4 as s01housenumber4
use Rattle.cases.specs.Case01HouseNumbers as s01housenumbers
use Rattle.cases.specs.Case01InstantsInOneTick as s01instantsinonetick
use Rattle.cases.specs.Case01Ninths as s01ninths
use Rattle.cases.specs.Case01RehearsedP1P2 as s01rehearsed_p1_p2
use Rattle.cases.specs.Case01RehearsedP10 as s01rehearsed_p10
use Rattle.cases.specs.Case01RehearsedP11 as s01rehearsed_p11
use Rattle.cases.specs.Case01RehearsedP12P14 as s01rehearsed_p12_p14
use Rattle.cases.specs.Case01RehearsedP3P4 as s01rehearsed_p3_p4
use Rattle.cases.specs.Case01RehearsedP5P6 as s01rehearsed_p5_p6
use Rattle.cases.specs.Case01RehearsedP7P8 as s01rehearsed_p7_p8
use Rattle.cases.specs.Case01RehearsedP9 as s01rehearsed_p9
use Rattle.cases.specs.Case01RehearsedAll as s01rehearsedall
use Rattle.cases.specs.Case01RehearsedThreeLinked as s01rehearsedthreelinked
use Rattle.cases.specs.Case01SpliceOrderOfCodes as s01spliceorderofcodes
use Rattle.cases.specs.Case01WholeCase as s01wholecase
use Rattle.cases.specs.Case02ConfigMap as s02configmap
use Rattle.cases.specs.Case02EndedAgain as s02endedagain
use Rattle.cases.specs.Case02EndedClose as s02endedclose
use Rattle.cases.specs.Case02EndedKinds as s02endedkinds
use Rattle.cases.specs.Case02EndedPlayed as s02endedplayed
use Rattle.cases.specs.Case02EndedSixteen as s02endedsixteen
use Rattle.cases.specs.Case02EndedWidths as s02endedwidths
use Rattle.cases.specs.Case02EqualEdges as s02equaledges
use Rattle.cases.specs.Case02EqualOnAirFollowers as s02equalonairfollowers
use Rattle.cases.specs.Case02EqualOverCovered as s02equalovercovered
use Rattle.cases.specs.Case02EqualThreeInARow as s02equalthreeinarow
use Rattle.cases.specs.Case101MultipleEvents as s101multipleevents
use Rattle.cases.specs.Case101SingleEvent as s101singleevent
use Rattle.cases.specs.Case62AbortWhileOverridden as s62abortwhileoverridden
use Rattle.cases.specs.Case62Figure63Equal as s62figure63equal
use Rattle.cases.specs.Case62Figure63EqualOneTick as s62figure63equalonetick
use Rattle.cases.specs.Case62Figure63Higher as s62figure63higher
use Rattle.cases.specs.Case62Figure63HigherOneTick as s62figure63higheronetick
use Rattle.cases.specs.Case62FirstCome as s62firstcome
use Rattle.cases.specs.Case62Flag0NeverReplaces as s62flag0neverreplaces
use Rattle.cases.specs.Case62Priorities as s62priorities
use Rattle.cases.specs.Case62PrioritiesReversed as s62prioritiesreversed
use Rattle.cases.specs.Case62SharedAvail as s62sharedavail
use Rattle.cases.specs.Case62SharedAvailCollision as s62sharedavailcollision
use Rattle.cases.specs.Case63ReturnAfterAbort as s63returnafterabort
use Rattle.cases.specs.Case63ReturnAfterClose as s63returnafterclose
use Rattle.cases.specs.Case63ReturnToPrimary as s63returntoprimary
use Rattle.cases.specs.Case63ThreeLevels as s63threelevels
use Rattle.cases.specs.Case65Reinitialisation as s65reinitialisation
use Rattle.cases.specs.Case71Bytes as s71bytes
use Rattle.cases.specs.Case71MessageIds as s71messageids
use Rattle.cases.specs.Case713GetConfig as s713getconfig
use Rattle.cases.specs.Case72Names as s72names
use Rattle.cases.specs.Case72Unreadable as s72unreadable
use Rattle.cases.specs.Case73Init as s73init
use Rattle.cases.specs.Case751FieldsWithoutEffect as s751fieldswithouteffect
use Rattle.cases.specs.Case751SessionId as s751sessionid
use Rattle.cases.specs.Case753FailingSpliceBetween as s753failingsplicebetween
use Rattle.cases.specs.Case753TwoPieces as s753twopieces
use Rattle.cases.specs.Case75PriorSession as s75priorsession
use Rattle.cases.specs.Case75Queue20 as s75queue20
use Rattle.cases.specs.Case75Queue64 as s75queue64
use Rattle.cases.specs.Case75ThreeSeconds as s75threeseconds
use Rattle.cases.specs.Case76Alive as s76alive
use Rattle.cases.specs.Case77ExtendedData as s77extendeddata
use Rattle.cases.specs.Case78AbortBeforeStart as s78abortbeforestart
use Rattle.cases.specs.Case78AbortFirstOnAir as s78abortfirstonair
use Rattle.cases.specs.Case78AbortMiddle as s78abortmiddle
use Rattle.cases.specs.Case78AbortOtherConnection as s78abortotherconnection
use Rattle.cases.specs.Case78AbortReusedNumber as s78abortreusednumber
use Rattle.cases.specs.Case82HardwareConfig as s82hardwareconfig
use Rattle.cases.specs.Case83SeparatePids as s83separatepids
use Rattle.cases.specs.Case83SeparatePidsEdges as s83separatepidsedges
use Rattle.cases.specs.Case852MuxPriority as s852muxpriority
use Rattle.cases.specs.Case852MuxPriorityEdges as s852muxpriorityedges
use Rattle.cases.specs.Case85Descriptors as s85descriptors
use Rattle.cases.specs.Case85DescriptorsIllFormed as s85descriptorsillformed
use Rattle.cases.specs.Case85DescriptorsUnreadContent as s85descriptorsunreadcontent
use Rattle.cases.specs.CaseAppendixIResultCodes as sappendix_iresultcodes
use Rattle.cases.specs.CaseAppendixII1 as sappendix_ii1
use Rattle.cases.specs.CaseAppendixII2 as sappendix_ii2
use Rattle.cases.specs.CaseDemandsIncident as sdemandsincident
use Rattle.cases.specs.CaseDemandsIncidentSameTimes as sdemandsincidentsametimes
use Rattle.cases.specs.CaseExampleDay as sexampleday

-- as `card_step` and `card_run`
unfoldable pub pass_step : (Pass → List ℕ → List ℕ) → Next → Pass → List ℕ
pass_step on stops s = []
pass_step on (ends k) s = told (call k s).answer
pass_step on (calls k l) s = told (call k s).answer ++ on (call k s).pass l

unfoldable pub pass_run : ℕ → Pass → List ℕ → List ℕ
pass_run zero s l = []
pass_run (suc n) s l = pass_step (pass_run n) (next l) s

unfoldable pub recalled : List ℕ → List ℕ
recalled l = pass_run (length l) (begun card_name) l

unfoldable pub recalling : ℕ
unfolding computing pass_step pass_run recalled Verdicts.lately_from Work.and_then Work.walk Work.leaving Work.started_ones
    Work.waiting_ones Work.dismissed Work.evicted Work.cancelled Work.aborted Work.closed_by Work.may_start Work.ousted Work.started
    Work.failed Work.launched Work.start_at Work.end_at Work.instant Work.elapse Work.due Work.run Work.run_all Work.start_of
    Work.requested Work.unknown_prior Work.wrong_number Work.collides Work.full Work.splice_result Work.accepted Work.later
    Work.answer_splice Work.answer_abort Work.air_state Work.air_id Work.air_feed Work.extended_response Calls.answer_init
    Calls.alive_response Calls.config_response Calls.answer_read Calls.answer Calls.handled Calls.open_call Calls.close_call
    Calls.message_call Calls.ticked Calls.move_call Calls.tick_call Calls.cue_call Calls.call Calls.begun Calls.passed
recalling = 0

of-01-card-cut-header : recalled (input s01cardcutheader.rows) ≡ output s01cardcutheader.rows
unfolding recalling s01cardcutheader.rows
of-01-card-cut-header = refl

of-01-card-cut-mark : recalled (input s01cardcutmark.rows) ≡ output s01cardcutmark.rows
unfolding recalling s01cardcutmark.rows
of-01-card-cut-mark = refl

of-01-card-cut-message : recalled (input s01cardcutmessage.rows) ≡ output s01cardcutmessage.rows
unfolding recalling s01cardcutmessage.rows
of-01-card-cut-message = refl

of-01-card-cut-tick : recalled (input s01cardcuttick.rows) ≡ output s01cardcuttick.rows
unfolding recalling s01cardcuttick.rows
of-01-card-cut-tick = refl

of-01-card-oversize-closed : recalled (input s01cardoversizeclosed.rows) ≡ output s01cardoversizeclosed.rows
unfolding recalling s01cardoversizeclosed.rows
of-01-card-oversize-closed = refl

of-01-card-oversize-no-connection : recalled (input s01cardoversizenoconnection.rows) ≡ output s01cardoversizenoconnection.rows
unfolding recalling s01cardoversizenoconnection.rows
of-01-card-oversize-no-connection = refl

of-01-card-oversize-open : recalled (input s01cardoversizeopen.rows) ≡ output s01cardoversizeopen.rows
unfolding recalling s01cardoversizeopen.rows
of-01-card-oversize-open = refl

of-01-card-unknown-mark : recalled (input s01cardunknownmark.rows) ≡ output s01cardunknownmark.rows
unfolding recalling s01cardunknownmark.rows
of-01-card-unknown-mark = refl

of-01-close-order : recalled (input s01closeorder.rows) ≡ output s01closeorder.rows
unfolding recalling s01closeorder.rows
of-01-close-order = refl

of-01-covered-follower : recalled (input s01coveredfollower.rows) ≡ output s01coveredfollower.rows
unfolding recalling s01coveredfollower.rows
of-01-covered-follower = refl

of-01-end-of-time : recalled (input s01endoftime.rows) ≡ output s01endoftime.rows
unfolding recalling s01endoftime.rows
of-01-end-of-time = refl

of-01-end-of-time-on-air : recalled (input s01endoftimeonair.rows) ≡ output s01endoftimeonair.rows
unfolding recalling s01endoftimeonair.rows
of-01-end-of-time-on-air = refl

of-01-ends-before-start : recalled (input s01endsbeforestart.rows) ≡ output s01endsbeforestart.rows
unfolding recalling s01endsbeforestart.rows
of-01-ends-before-start = refl

of-01-every-byte : recalled (input s01everybyte.rows) ≡ output s01everybyte.rows
unfolding recalling s01everybyte.rows
of-01-every-byte = refl

of-01-eviction-followers : recalled (input s01evictionfollowers.rows) ≡ output s01evictionfollowers.rows
unfolding recalling s01evictionfollowers.rows
of-01-eviction-followers = refl

of-01-house-number-4 : recalled (input s01housenumber4.rows) ≡ output s01housenumber4.rows
unfolding recalling s01housenumber4.rows
of-01-house-number-4 = refl

of-01-house-numbers : recalled (input s01housenumbers.rows) ≡ output s01housenumbers.rows
unfolding recalling s01housenumbers.rows
of-01-house-numbers = refl

of-01-instants-in-one-tick : recalled (input s01instantsinonetick.rows) ≡ output s01instantsinonetick.rows
unfolding recalling s01instantsinonetick.rows
of-01-instants-in-one-tick = refl

of-01-ninths : recalled (input s01ninths.rows) ≡ output s01ninths.rows
unfolding recalling s01ninths.rows
of-01-ninths = refl

of-01-rehearsed-P1-P2 : recalled (input s01rehearsed_p1_p2.rows) ≡ output s01rehearsed_p1_p2.rows
unfolding recalling s01rehearsed_p1_p2.rows
of-01-rehearsed-P1-P2 = refl

of-01-rehearsed-P10 : recalled (input s01rehearsed_p10.rows) ≡ output s01rehearsed_p10.rows
unfolding recalling s01rehearsed_p10.rows
of-01-rehearsed-P10 = refl

of-01-rehearsed-P11 : recalled (input s01rehearsed_p11.rows) ≡ output s01rehearsed_p11.rows
unfolding recalling s01rehearsed_p11.rows
of-01-rehearsed-P11 = refl

of-01-rehearsed-P12-P14 : recalled (input s01rehearsed_p12_p14.rows) ≡ output s01rehearsed_p12_p14.rows
unfolding recalling s01rehearsed_p12_p14.rows
of-01-rehearsed-P12-P14 = refl

of-01-rehearsed-P3-P4 : recalled (input s01rehearsed_p3_p4.rows) ≡ output s01rehearsed_p3_p4.rows
unfolding recalling s01rehearsed_p3_p4.rows
of-01-rehearsed-P3-P4 = refl

of-01-rehearsed-P5-P6 : recalled (input s01rehearsed_p5_p6.rows) ≡ output s01rehearsed_p5_p6.rows
unfolding recalling s01rehearsed_p5_p6.rows
of-01-rehearsed-P5-P6 = refl

of-01-rehearsed-P7-P8 : recalled (input s01rehearsed_p7_p8.rows) ≡ output s01rehearsed_p7_p8.rows
unfolding recalling s01rehearsed_p7_p8.rows
of-01-rehearsed-P7-P8 = refl

of-01-rehearsed-P9 : recalled (input s01rehearsed_p9.rows) ≡ output s01rehearsed_p9.rows
unfolding recalling s01rehearsed_p9.rows
of-01-rehearsed-P9 = refl

of-01-rehearsed-all : recalled (input s01rehearsedall.rows) ≡ output s01rehearsedall.rows
unfolding recalling s01rehearsedall.rows
of-01-rehearsed-all = refl

of-01-rehearsed-three-linked : recalled (input s01rehearsedthreelinked.rows) ≡ output s01rehearsedthreelinked.rows
unfolding recalling s01rehearsedthreelinked.rows
of-01-rehearsed-three-linked = refl

of-01-splice-order-of-codes : recalled (input s01spliceorderofcodes.rows) ≡ output s01spliceorderofcodes.rows
unfolding recalling s01spliceorderofcodes.rows
of-01-splice-order-of-codes = refl

of-01-whole-case : recalled (input s01wholecase.rows) ≡ output s01wholecase.rows
unfolding recalling s01wholecase.rows
of-01-whole-case = refl

of-02-config-map : recalled (input s02configmap.rows) ≡ output s02configmap.rows
unfolding recalling s02configmap.rows
of-02-config-map = refl

of-02-ended-again : recalled (input s02endedagain.rows) ≡ output s02endedagain.rows
unfolding recalling s02endedagain.rows
of-02-ended-again = refl

of-02-ended-close : recalled (input s02endedclose.rows) ≡ output s02endedclose.rows
unfolding recalling s02endedclose.rows
of-02-ended-close = refl

of-02-ended-kinds : recalled (input s02endedkinds.rows) ≡ output s02endedkinds.rows
unfolding recalling s02endedkinds.rows
of-02-ended-kinds = refl

of-02-ended-played : recalled (input s02endedplayed.rows) ≡ output s02endedplayed.rows
unfolding recalling s02endedplayed.rows
of-02-ended-played = refl

of-02-ended-sixteen : recalled (input s02endedsixteen.rows) ≡ output s02endedsixteen.rows
unfolding recalling s02endedsixteen.rows
of-02-ended-sixteen = refl

of-02-ended-widths : recalled (input s02endedwidths.rows) ≡ output s02endedwidths.rows
unfolding recalling s02endedwidths.rows
of-02-ended-widths = refl

of-02-equal-edges : recalled (input s02equaledges.rows) ≡ output s02equaledges.rows
unfolding recalling s02equaledges.rows
of-02-equal-edges = refl

of-02-equal-on-air-followers : recalled (input s02equalonairfollowers.rows) ≡ output s02equalonairfollowers.rows
unfolding recalling s02equalonairfollowers.rows
of-02-equal-on-air-followers = refl

of-02-equal-over-covered : recalled (input s02equalovercovered.rows) ≡ output s02equalovercovered.rows
unfolding recalling s02equalovercovered.rows
of-02-equal-over-covered = refl

of-02-equal-three-in-a-row : recalled (input s02equalthreeinarow.rows) ≡ output s02equalthreeinarow.rows
unfolding recalling s02equalthreeinarow.rows
of-02-equal-three-in-a-row = refl

of-10-1-multiple-events : recalled (input s101multipleevents.rows) ≡ output s101multipleevents.rows
unfolding recalling s101multipleevents.rows
of-10-1-multiple-events = refl

of-10-1-single-event : recalled (input s101singleevent.rows) ≡ output s101singleevent.rows
unfolding recalling s101singleevent.rows
of-10-1-single-event = refl

of-6-2-abort-while-overridden : recalled (input s62abortwhileoverridden.rows) ≡ output s62abortwhileoverridden.rows
unfolding recalling s62abortwhileoverridden.rows
of-6-2-abort-while-overridden = refl

of-6-2-figure-6-3-equal : recalled (input s62figure63equal.rows) ≡ output s62figure63equal.rows
unfolding recalling s62figure63equal.rows
of-6-2-figure-6-3-equal = refl

of-6-2-figure-6-3-equal-one-tick : recalled (input s62figure63equalonetick.rows) ≡ output s62figure63equalonetick.rows
unfolding recalling s62figure63equalonetick.rows
of-6-2-figure-6-3-equal-one-tick = refl

of-6-2-figure-6-3-higher : recalled (input s62figure63higher.rows) ≡ output s62figure63higher.rows
unfolding recalling s62figure63higher.rows
of-6-2-figure-6-3-higher = refl

of-6-2-figure-6-3-higher-one-tick : recalled (input s62figure63higheronetick.rows) ≡ output s62figure63higheronetick.rows
unfolding recalling s62figure63higheronetick.rows
of-6-2-figure-6-3-higher-one-tick = refl

of-6-2-first-come : recalled (input s62firstcome.rows) ≡ output s62firstcome.rows
unfolding recalling s62firstcome.rows
of-6-2-first-come = refl

of-6-2-flag-0-never-replaces : recalled (input s62flag0neverreplaces.rows) ≡ output s62flag0neverreplaces.rows
unfolding recalling s62flag0neverreplaces.rows
of-6-2-flag-0-never-replaces = refl

of-6-2-priorities : recalled (input s62priorities.rows) ≡ output s62priorities.rows
unfolding recalling s62priorities.rows
of-6-2-priorities = refl

of-6-2-priorities-reversed : recalled (input s62prioritiesreversed.rows) ≡ output s62prioritiesreversed.rows
unfolding recalling s62prioritiesreversed.rows
of-6-2-priorities-reversed = refl

of-6-2-shared-avail : recalled (input s62sharedavail.rows) ≡ output s62sharedavail.rows
unfolding recalling s62sharedavail.rows
of-6-2-shared-avail = refl

of-6-2-shared-avail-collision : recalled (input s62sharedavailcollision.rows) ≡ output s62sharedavailcollision.rows
unfolding recalling s62sharedavailcollision.rows
of-6-2-shared-avail-collision = refl

of-6-3-return-after-abort : recalled (input s63returnafterabort.rows) ≡ output s63returnafterabort.rows
unfolding recalling s63returnafterabort.rows
of-6-3-return-after-abort = refl

of-6-3-return-after-close : recalled (input s63returnafterclose.rows) ≡ output s63returnafterclose.rows
unfolding recalling s63returnafterclose.rows
of-6-3-return-after-close = refl

of-6-3-return-to-primary : recalled (input s63returntoprimary.rows) ≡ output s63returntoprimary.rows
unfolding recalling s63returntoprimary.rows
of-6-3-return-to-primary = refl

of-6-3-three-levels : recalled (input s63threelevels.rows) ≡ output s63threelevels.rows
unfolding recalling s63threelevels.rows
of-6-3-three-levels = refl

of-6-5-reinitialisation : recalled (input s65reinitialisation.rows) ≡ output s65reinitialisation.rows
unfolding recalling s65reinitialisation.rows
of-6-5-reinitialisation = refl

of-7-1-bytes : recalled (input s71bytes.rows) ≡ output s71bytes.rows
unfolding recalling s71bytes.rows
of-7-1-bytes = refl

of-7-1-message-ids : recalled (input s71messageids.rows) ≡ output s71messageids.rows
unfolding recalling s71messageids.rows
of-7-1-message-ids = refl

of-7-13-get-config : recalled (input s713getconfig.rows) ≡ output s713getconfig.rows
unfolding recalling s713getconfig.rows
of-7-13-get-config = refl

of-7-2-names : recalled (input s72names.rows) ≡ output s72names.rows
unfolding recalling s72names.rows
of-7-2-names = refl

of-7-2-unreadable : recalled (input s72unreadable.rows) ≡ output s72unreadable.rows
unfolding recalling s72unreadable.rows
of-7-2-unreadable = refl

of-7-3-init : recalled (input s73init.rows) ≡ output s73init.rows
unfolding recalling s73init.rows
of-7-3-init = refl

of-7-5-1-fields-without-effect : recalled (input s751fieldswithouteffect.rows) ≡ output s751fieldswithouteffect.rows
unfolding recalling s751fieldswithouteffect.rows
of-7-5-1-fields-without-effect = refl

of-7-5-1-session-id : recalled (input s751sessionid.rows) ≡ output s751sessionid.rows
unfolding recalling s751sessionid.rows
of-7-5-1-session-id = refl

of-7-5-3-failing-splice-between : recalled (input s753failingsplicebetween.rows) ≡ output s753failingsplicebetween.rows
unfolding recalling s753failingsplicebetween.rows
of-7-5-3-failing-splice-between = refl

of-7-5-3-two-pieces : recalled (input s753twopieces.rows) ≡ output s753twopieces.rows
unfolding recalling s753twopieces.rows
of-7-5-3-two-pieces = refl

of-7-5-prior-session : recalled (input s75priorsession.rows) ≡ output s75priorsession.rows
unfolding recalling s75priorsession.rows
of-7-5-prior-session = refl

of-7-5-queue-20 : recalled (input s75queue20.rows) ≡ output s75queue20.rows
unfolding recalling s75queue20.rows
of-7-5-queue-20 = refl

of-7-5-queue-64 : recalled (input s75queue64.rows) ≡ output s75queue64.rows
unfolding recalling s75queue64.rows
of-7-5-queue-64 = refl

of-7-5-three-seconds : recalled (input s75threeseconds.rows) ≡ output s75threeseconds.rows
unfolding recalling s75threeseconds.rows
of-7-5-three-seconds = refl

of-7-6-alive : recalled (input s76alive.rows) ≡ output s76alive.rows
unfolding recalling s76alive.rows
of-7-6-alive = refl

of-7-7-extended-data : recalled (input s77extendeddata.rows) ≡ output s77extendeddata.rows
unfolding recalling s77extendeddata.rows
of-7-7-extended-data = refl

of-7-8-abort-before-start : recalled (input s78abortbeforestart.rows) ≡ output s78abortbeforestart.rows
unfolding recalling s78abortbeforestart.rows
of-7-8-abort-before-start = refl

of-7-8-abort-first-on-air : recalled (input s78abortfirstonair.rows) ≡ output s78abortfirstonair.rows
unfolding recalling s78abortfirstonair.rows
of-7-8-abort-first-on-air = refl

of-7-8-abort-middle : recalled (input s78abortmiddle.rows) ≡ output s78abortmiddle.rows
unfolding recalling s78abortmiddle.rows
of-7-8-abort-middle = refl

of-7-8-abort-other-connection : recalled (input s78abortotherconnection.rows) ≡ output s78abortotherconnection.rows
unfolding recalling s78abortotherconnection.rows
of-7-8-abort-other-connection = refl

of-7-8-abort-reused-number : recalled (input s78abortreusednumber.rows) ≡ output s78abortreusednumber.rows
unfolding recalling s78abortreusednumber.rows
of-7-8-abort-reused-number = refl

of-8-2-hardware-config : recalled (input s82hardwareconfig.rows) ≡ output s82hardwareconfig.rows
unfolding recalling s82hardwareconfig.rows
of-8-2-hardware-config = refl

of-8-3-separate-pids : recalled (input s83separatepids.rows) ≡ output s83separatepids.rows
unfolding recalling s83separatepids.rows
of-8-3-separate-pids = refl

of-8-3-separate-pids-edges : recalled (input s83separatepidsedges.rows) ≡ output s83separatepidsedges.rows
unfolding recalling s83separatepidsedges.rows
of-8-3-separate-pids-edges = refl

of-8-5-2-mux-priority : recalled (input s852muxpriority.rows) ≡ output s852muxpriority.rows
unfolding recalling s852muxpriority.rows
of-8-5-2-mux-priority = refl

of-8-5-2-mux-priority-edges : recalled (input s852muxpriorityedges.rows) ≡ output s852muxpriorityedges.rows
unfolding recalling s852muxpriorityedges.rows
of-8-5-2-mux-priority-edges = refl

of-8-5-descriptors : recalled (input s85descriptors.rows) ≡ output s85descriptors.rows
unfolding recalling s85descriptors.rows
of-8-5-descriptors = refl

of-8-5-descriptors-ill-formed : recalled (input s85descriptorsillformed.rows) ≡ output s85descriptorsillformed.rows
unfolding recalling s85descriptorsillformed.rows
of-8-5-descriptors-ill-formed = refl

of-8-5-descriptors-unread-content : recalled (input s85descriptorsunreadcontent.rows) ≡ output s85descriptorsunreadcontent.rows
unfolding recalling s85descriptorsunreadcontent.rows
of-8-5-descriptors-unread-content = refl

of-appendix-I-result-codes : recalled (input sappendix_iresultcodes.rows) ≡ output sappendix_iresultcodes.rows
unfolding recalling sappendix_iresultcodes.rows
of-appendix-I-result-codes = refl

of-appendix-II-1 : recalled (input sappendix_ii1.rows) ≡ output sappendix_ii1.rows
unfolding recalling sappendix_ii1.rows
of-appendix-II-1 = refl

of-appendix-II-2 : recalled (input sappendix_ii2.rows) ≡ output sappendix_ii2.rows
unfolding recalling sappendix_ii2.rows
of-appendix-II-2 = refl

of-demands-incident : recalled (input sdemandsincident.rows) ≡ output sdemandsincident.rows
unfolding recalling sdemandsincident.rows
of-demands-incident = refl

of-demands-incident-same-times : recalled (input sdemandsincidentsametimes.rows) ≡ output sdemandsincidentsametimes.rows
unfolding recalling sdemandsincidentsametimes.rows
of-demands-incident-same-times = refl

of-example-day : recalled (input sexampleday.rows) ≡ output sexampleday.rows
unfolding recalling sexampleday.rows
of-example-day = refl
