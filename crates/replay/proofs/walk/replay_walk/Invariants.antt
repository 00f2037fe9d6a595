-- The steps left, from the state reached, lead where all of them lead.
use Prim.Native.Nat.{◌-◌, ◌<◌}
use mathlib.Core.Path.{◌≡◌}
use Rattle.graph.specs.States.{states}
use Rattle.replay.specs.Trail.{run, walk_step}
use Rattle.replay.proofs.walk.replay_walk.Given as goal

abbrev pub invariant-loop : goal.invariant-loop
invariant-loop l = (l.s < states l.space.plan.now.model) × (run (walk_step l.space.plan.now.model l.part) (l.count - l.counter) l.s l.p ≡ run (walk_step l.space.plan.now.model l.part) l.count l.q 0)
