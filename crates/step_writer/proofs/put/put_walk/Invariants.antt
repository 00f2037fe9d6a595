-- Laid so far are the labels up to state p; the rest are those from p through the states that are left.
use Prim.Native.Nat.{◌<◌}
use Rattle.graph.specs.Plan.{labelled_of_model}
use Rattle.graph.specs.States.{states}
use Rattle.step_writer.proofs.Written.{Walked}
use Rattle.step_writer.proofs.put.put_walk.Given as goal

abbrev pub invariant-loop-s : goal.invariant-loop-s
invariant-loop-s l = (l.p < states l.space.plan.now.model) × Walked (labelled_of_model l.space.plan.now.model) l.walk l.initial.out l.out l.q l.at l.p l.end l.s-index
