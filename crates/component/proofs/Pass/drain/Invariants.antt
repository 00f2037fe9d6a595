-- The loop keeps the state, and twice the number of new nodes and the length of the path falls.
use Prim.Native.Nat.{◌+◌, ◌*◌}
use Rattle.component.specs.Pass.{NoNew}
use Rattle.component.specs.Stack.{at, news}
use Rattle.component.specs.Held.{InPass, Same}
use Rattle.component.proofs.Pass.drain.Given as goal

abbrev pub invariant-loop-self : goal.invariant-loop-self
invariant-loop-self l = record {
  pass : InPass l.graph l.self;
  no_new : NoNew l.graph.nodes l.initial.self.mark.now l.self.mark.now;
  same : Same l.initial.self l.self;
}

abbrev pub decreases-loop-self : goal.decreases-loop-self
decreases-loop-self l = 2 * news (at l.self.mark.now) l.graph.nodes + l.self.depth
