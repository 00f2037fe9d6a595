-- `margin::entries_by` meets its contract. The invariant: the entries by the start and the edges from e on are counted, and each edge has
-- at most max_values.
use Prim.Native.Nat.{◌+◌, ◌*◌, ◌≤◌}
use mathlib.Core.Path.{◌≡◌}
use Rattle.robust.specs.Margin.{max_values}
use Rattle.margin.proofs.Entries.{entries_from}
use Rattle.margin.proofs.entries_by.Given as goal

abbrev pub invariant-loop-e : goal.invariant-loop-e
invariant-loop-e l = (l.count ≡ entries_from l.plan.model l.l l.e) × (l.count + max_values * l.e ≤ max_values * l.plan.model.edges + 1)
