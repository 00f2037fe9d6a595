-- `Region::fits` meets its contract: the tests are those of the definition, but for a last `&& true`.
use mathlib.Core.Bool.{and-true}
use Rattle.theory.specs.Region.{fits}
use Rattle.region.proofs.Region.fits.Goals as goal

pub returns : goal.returns
unfolding fits
returns c = cc (and-true c.limited-3.result)
