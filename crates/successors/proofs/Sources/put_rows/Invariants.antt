-- `successors::put_rows` meets its contract. The invariant: the rows of the first i regions are put.
use lib.ListN.{length}
use mathlib.Core.Path.{◌≡◌}
use Prim.Native.Nat.{◌+◌, ◌*◌, ◌≤◌}
use Rattle.graph.specs.States.{states}
use Rattle.successors.specs.Rows.{HoldsBelow}
use Rattle.successors.specs.Flow.{state_of, room}
use Rattle.graph.specs.Plan.{system_of_model}
use Rattle.successors.proofs.Sources.put_rows.Given as goal

abbrev pub invariant-loop-i : goal.invariant-loop-i
invariant-loop-i l = (l.end ≤ room l.self.space.plan.now.model l.l + (length l.edges + 1) * l.i)
    × (length l.targets ≡ length l.initial.targets)
    × HoldsBelow l.first l.targets (states l.self.space.plan.now.model) (system_of_model l.self.space.plan.now.model).flow (state_of l.self.space.plan.now.model l.l l.i) l.end
