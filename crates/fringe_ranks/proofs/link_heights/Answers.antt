-- `fringe_ranks::link_heights` meets its contract. The invariant: the chains lead through the states passed.
use Rattle.fringe_ranks.proofs.Heights.{heights_start, heights_next, heights_end}
use Rattle.fringe_ranks.proofs.link_heights.Goals as goal

pub loop-p-init : goal.loop-p-init
loop-p-init c = heights_start c.requires c.fill.new.self (c.fill.ensures.after (λ y e. e))

pub loop-p-preserved : goal.loop-p-preserved
loop-p-preserved c = rw c.from-h.ensures (heights_next c.args.sheet.now c.loop-p.invariant c.loop-p-test.true)

pub returns : goal.returns
returns c = heights_end c.args.sheet.now c.loop-p.invariant c.loop-p-test.false
