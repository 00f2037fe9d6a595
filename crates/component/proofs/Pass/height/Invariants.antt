-- The loop over the places.
use Prim.Native.Nat.{◌+◌}
use Rattle.component.specs.Scan.{Most}
use Rattle.component.specs.Stack.{at}
use Rattle.component.specs.Held.{graph_in}
use Rattle.component.proofs.Pass.height.Given as goal

abbrev pub invariant-loop-v : goal.invariant-loop-v
invariant-loop-v l = Most (graph_in l.graph) l.graph.nodes (at l.self.mark.now) (at l.self.stack.now) l.self.cur (l.self.cur + l.v-index) l.most
