-- `Region::after` meets its contract: all ranks rise, or the clocks of the top rank go to the next whole number.
use mathlib.Core.Path.{◌∙◌}
use Rattle.region.proofs.Views.{rises, carries}
use Rattle.region.proofs.Region.after.Goals as goal

pub returns-then-has_whole : goal.returns-then-has_whole
returns-then-has_whole c = cc (rises c.args.n c.requires.0 c.args.self (cc))

pub returns : goal.returns
returns c =
    c.first-3.ensures
    ∙ rw c.carried.ensures
    (carries c.args.n c.requires.0 c.args.self c.top_rank-t.result (cc) (cc))
