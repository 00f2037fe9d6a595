-- `next` meets its contract: the gap after entry i, and where it ends.
use Rattle.region_table.proofs.Gaps.{skip_gap}
use Rattle.region_table.proofs.next.Goals as goal

pub returns : goal.returns
returns c =
    skip_gap c.args.n c.args.ceiling c.args.all.now c.args.i c.requires.1 c.requires.0 _ _ c.gap-q.ensures
    c.place.ensures
