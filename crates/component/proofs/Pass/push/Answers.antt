-- A place of targets fits a word.
use native.Mathlib.Omega.{arith}
use Rattle.component.proofs.GraphLaws.{first_few}
use Rattle.component.proofs.Pass.push.Goals as goal

pub overflow_cast-self-3 : goal.overflow_cast-self-3
overflow_cast-self-3 c = omega (arith, first_few _ _ _ c.args.graph.now.lists c.args.t (omega arith))
