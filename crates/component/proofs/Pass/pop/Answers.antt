-- The height is at most the number of nodes, so that the mark fits.
use native.Mathlib.Omega.{arith}
use Rattle.component.proofs.Scans.{most_le}
use Rattle.component.proofs.Pass.pop.Goals as goal

pub overflow_add-x-2 : goal.overflow_add-x-2
overflow_add-x-2 c = grind (arith, most_le c.args.graph.now.lists c.requires.heights c.height.ensures)

pub overflow_add-x-3 : goal.overflow_add-x-3
overflow_add-x-3 c = grind (arith, most_le c.args.graph.now.lists c.requires.heights c.height.ensures)

pub overflow_cast-x : goal.overflow_cast-x
overflow_cast-x c = grind (arith, most_le c.args.graph.now.lists c.requires.heights c.height.ensures)
