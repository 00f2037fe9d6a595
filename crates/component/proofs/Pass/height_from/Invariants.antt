-- The loop over the successors of v.
use Rattle.component.specs.Held.{graph_in}
use Rattle.component.proofs.Scans.{MostTo}
use Rattle.component.proofs.Pass.height_from.Given as goal

abbrev pub invariant-loop-t : goal.invariant-loop-t
invariant-loop-t l = MostTo (graph_in l.graph) l.graph.nodes l.self.mark.now l.t-items l.v l.h l.t-index l.most
