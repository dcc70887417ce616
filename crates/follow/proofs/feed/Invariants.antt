-- The invariant: the bytes passed were handed in.
-- Rests on proofs/Pieces: a part more, and what was told stays.
use Rattle.std.proofs.Common.{◌-◌, ◌^◌, ◌<◌, ◌≤◌, length, take}
use Rattle.follow.specs.Following.{Feeds}
use Rattle.follow.proofs.feed.Given as goal

abbrev pub invariant-loop-i : goal.invariant-loop-i
invariant-loop-i l =
    Feeds l.initial.t (take l.i l.p) l.initial.m l.initial.b l.initial.due l.initial.kept l.t l.m l.b l.due l.kept × (l.i ≤ length l.p) ×
    (length l.p < 2 ^ 64)

abbrev pub decreases-loop-i : goal.decreases-loop-i
decreases-loop-i l = length l.p - l.i
