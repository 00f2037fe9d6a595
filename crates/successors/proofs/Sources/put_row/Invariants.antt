-- `successors::put_row` meets its contract. The invariant: the jumps along the first k of the edges are put.
use Rattle.successors.specs.Flow.{state_of}
use Rattle.successors.specs.Rows.{Puts}
use Rattle.successors.proofs.Steps.{JumpsTo}
use Rattle.successors.proofs.Sources.put_row.Given as goal

abbrev pub invariant-loop-e : goal.invariant-loop-e
invariant-loop-e l = Puts l.e-index (JumpsTo l.self.space.plan.now.model l.edges l.e-index (state_of l.self.space.plan.now.model l.l l.i)) l.initial.targets l.targets l.initial.end l.end
