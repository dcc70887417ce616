-- The words show the stage, before and after.
-- Rests on proofs/Staged.
use Rattle.door_bench.proofs.Staged.{holds_as, fed-as}
use Rattle.door_bench.proofs.splicer_bench_2_referee_feed.Goals as goal

pub feed-t-requires : goal.feed-t-requires
feed-t-requires c =
    holds_as _ _ _ _ _ c.stage_of-s.ensures c.requires

pub returns : goal.returns
returns c =
    fed-as _ c.stage_of-s.ensures c.feed-t.ensures c.stage_words.ensures c.told.ensures
    c.verdict_words.ensures
