-- `margin::margin` meets its contract. The invariant: the entries of the locations below l are counted, at most max_values for each.
use Prim.Native.Nat.{◌*◌, ◌≤◌}
use mathlib.Core.Path.{◌≡◌}
use Rattle.robust.specs.Margin.{half_entries, max_values}
use Rattle.graph.specs.Plan.{automaton_of}
use Rattle.margin.proofs.margin.Given as goal

abbrev pub invariant-loop-l : goal.invariant-loop-l
invariant-loop-l l = (l.count ≡ half_entries (automaton_of l.plan.model) l.l) × (l.count ≤ max_values * l.l)
