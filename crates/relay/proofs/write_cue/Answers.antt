-- `write_cue`: nothing, a General_Response or a Cue_Request behind what is written (`tells-silent`, `tells-bad`, `tells-passed`).
use Rattle.relay.proofs.Laws.{tells-silent, tells-bad, tells-passed}
use native.Mathlib.Omega.{arith}
use Rattle.relay.proofs.write_cue.Goals as goal

pub returns-in-Silent : goal.returns-in-Silent
returns-in-Silent c = let a = c.args in tells-silent a.time a.section.now a.conn c.in-Silent.is

pub returns-in-Bad : goal.returns-in-Bad
returns-in-Bad c =
    tells-bad c.args.time c.args.section.now c.args.conn c.in-Bad.is (omega (arith, c.requires.cue_room_in_bounds))
    c.general_response.ensures

pub returns-in_default : goal.returns-in_default
returns-in_default c =
    tells-passed c.args.time c.args.section.now c.args.conn c.args.cue c.in_default.not-Silent c.in_default.not-Bad
    (omega (arith, c.requires.cue_room_in_bounds))
    c.cue_request.ensures
