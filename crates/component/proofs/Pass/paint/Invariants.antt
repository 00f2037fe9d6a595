-- The loop over the places.
use Rattle.component.specs.Scan.{Painted}
use Rattle.component.specs.Stack.{at}
use Rattle.component.specs.Held.{Kept, Same}
use Rattle.component.proofs.Pass.paint.Given as goal

abbrev pub invariant-loop-p : goal.invariant-loop-p
invariant-loop-p l = record {
  painted : Painted (at l.initial.self.mark.now) (at l.self.mark.now) (at l.initial.self.stack.now) l.initial.self.cur l.p l.x;
  kept : Kept l.initial.self l.self;
  same : Same l.initial.self l.self;
}
