-- The steps left, from the state reached, lead where all of them lead.
use Prim.Native.Nat.{◌-◌, ◌<◌}
use mathlib.Core.Path.{◌≡◌}
use Rattle.graph.specs.Plan.{system_of_model}
use Rattle.graph.specs.States.{states}
use Rattle.replay.specs.Trail.{run, trail_step}
use Rattle.replay.proofs.all_steps.Given as goal

abbrev pub invariant-loop : goal.invariant-loop
invariant-loop l = (l.s < states l.space.plan.now.model)
    × (run (trail_step l.space.plan.now.model l.bytes) (l.count - l.counter) l.s l.p ≡ run (trail_step l.space.plan.now.model l.bytes) l.count (system_of_model l.space.plan.now.model).start l.at)
