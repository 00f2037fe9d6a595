-- `Region::attains` meets its contract: the tests are those of the definition, but for a last `&& true`.
use mathlib.Core.Bool.{and-true}
use Rattle.theory.specs.Region.{attains}
use Rattle.region.proofs.Region.attains.Goals as goal

pub returns : goal.returns
unfolding attains
returns c = simp and-true
