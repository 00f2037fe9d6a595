-- `Region::code` meets its contract: its digits are the coordinates of the corner.
use borrow.Author.Rules.{rules}
use Rattle.region.specs.Corners.{code_at}
use Rattle.region.proofs.Region.code.Goals as goal

pub returns : goal.returns
unfolding code_at
returns c = search rules
