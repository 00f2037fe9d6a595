-- `successors::fill_flow` meets its contract. The invariant: the rows of the locations below l are put.
use lib.ListN.{length}
use mathlib.Core.Path.{◌≡◌}
use Prim.Native.Nat.{◌*◌, ◌≤◌}
use Rattle.graph.specs.States.{states}
use Rattle.successors.specs.Rows.{HoldsBelow}
use Rattle.successors.specs.Flow.{regions_in, room}
use Rattle.graph.specs.Plan.{system_of_model}
use Rattle.successors.proofs.fill_flow.Given as goal

abbrev pub invariant-loop-l : goal.invariant-loop-l
invariant-loop-l l = (l.n ≤ room l.fn.space.plan.now.model l.l)
    × (length l.targets ≡ length l.initial.targets)
    × HoldsBelow l.first l.targets (states l.fn.space.plan.now.model) (system_of_model l.fn.space.plan.now.model).flow (l.l * regions_in l.fn.space.plan.now.model) l.n
