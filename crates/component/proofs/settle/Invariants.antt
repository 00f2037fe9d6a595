-- The marks passed are lowered, the rest are as they were.
use Rattle.component.proofs.Scans.{SettledTo}
use Rattle.component.specs.Stack.{at}
use Rattle.component.proofs.settle.Given as goal

abbrev pub invariant-loop-x : goal.invariant-loop-x
invariant-loop-x l = SettledTo (at l.initial.mark) (at l.mark) l.n l.x-index
