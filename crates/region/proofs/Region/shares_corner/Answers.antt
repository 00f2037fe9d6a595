-- `Region::shares_corner` meets its contract: corners are compared by their numbers.
use Rattle.region.proofs.Corners.{codes_share}
use Rattle.region.proofs.Region.shares_corner.Goals as goal

pub returns : goal.returns
returns c = cc (codes_share c.args.self c.args.b c.requires.0 c.requires.1)
