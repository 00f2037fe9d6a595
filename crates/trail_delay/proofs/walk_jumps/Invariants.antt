-- `trail_delay::walk_jumps` meets its contract. The jumps so far go with those from p through the states that are left.
use Prim.Native.Nat.{◌<◌}
use Rattle.graph.specs.Plan.{labelled_of_model}
use Rattle.graph.specs.States.{states}
use Rattle.trail_delay.proofs.Jumps.{Counted}
use Rattle.trail_delay.proofs.walk_jumps.Given as goal

abbrev pub invariant-loop-q : goal.invariant-loop-q
invariant-loop-q l = (l.p < states l.space.plan.now.model) × Counted (labelled_of_model l.space.plan.now.model) l.start l.walk l.jumps l.p l.q-index
