-- `gap` meets its contract: by the first whole part that is above its limit.
use Rattle.region_table.proofs.Gaps.{gap_first, gap_second, gap_third}
use Rattle.region_table.proofs.gap.Goals as goal

pub returns-then-ceiling-g : goal.returns-then-ceiling-g
returns-then-ceiling-g c = gap_first c.args.n c.args.ceiling c.args.p c.requires (rw c.unpack-g.ensures at c.if-ceiling-g.true)

pub returns-then-limit-g : goal.returns-then-limit-g
returns-then-limit-g c = gap_second c.args.n c.args.ceiling c.args.p (rw (c.unpack-g.ensures, c.limit.ensures) at c.if-limit-g.true)

pub returns-then-limit-g-2 : goal.returns-then-limit-g-2
returns-then-limit-g-2 c = gap_third c.args.n c.args.ceiling c.args.p (rw (c.unpack-g.ensures, c.limit-2.ensures) at c.if-limit-g-2.true)
