-- `code` meets its contract.
use native.Mathlib.Omega.{arith}
use Rattle.region_steps.specs.Codes.{code_of}
use Rattle.region_steps.proofs.code.Goals as goal

pub returns-clause-value : goal.returns-clause-value
unfolding code_of
returns-clause-value c = omega arith
