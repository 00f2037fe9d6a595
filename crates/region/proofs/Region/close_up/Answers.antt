-- `Region::close_up` meets its contract: a rank's new number counts the ranks up to it, for ranks up to 3.
use Rattle.limits.specs.Limits.{max_clocks}
use Rattle.region.specs.View.{view}
use Rattle.region.proofs.Views.{upto_law}
use Rattle.region.proofs.Region.close_up.Goals as goal

pub returns : goal.returns
returns c =
    let g = c.args.self in
    cc (upto_law (view max_clocks g) g.r1 c.requires.r1, upto_law (view max_clocks g) g.r2 c.requires.r2, upto_law (view max_clocks g) g.r3 c.requires.r3)
