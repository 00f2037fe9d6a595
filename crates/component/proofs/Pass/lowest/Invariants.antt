-- The loop over the successors of the current node.
use Rattle.component.specs.Held.{graph_in}
use Rattle.component.specs.Stack.{at}
use Rattle.component.proofs.Scans.{LowTo}
use Rattle.component.proofs.Pass.lowest.Given as goal

abbrev pub invariant-loop-t : goal.invariant-loop-t
invariant-loop-t l = LowTo (graph_in l.graph) l.self.mark.now l.t-items (at l.self.stack.now l.self.cur) l.self.top l.t-index l.low
