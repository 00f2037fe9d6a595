-- `call::is_enough` meets its contract.
use mathlib.Core.Path.{refl}
use Rattle.call.specs.Call.{enough}
use Rattle.call.proofs.Frames.{and-true}
use Rattle.call.proofs.is_enough.Goals as goal

pub returns : goal.returns
unfolding enough
returns c = simp and-true refl
