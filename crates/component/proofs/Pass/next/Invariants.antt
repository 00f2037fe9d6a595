-- The successors passed are not new.
use Rattle.component.specs.Scan.{Cursor}
use Rattle.component.specs.Stack.{at}
use Rattle.component.proofs.Pass.next.Given as goal

abbrev pub invariant-loop-i : goal.invariant-loop-i
invariant-loop-i l = Cursor l.graph.first.now l.graph.targets.now (at l.self.mark.now) (at l.self.stack.now l.self.cur) l.i
