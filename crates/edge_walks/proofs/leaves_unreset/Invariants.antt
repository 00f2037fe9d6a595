-- No clock below x is left unreset.
use mathlib.Core.Path.{◌≡◌}
use mathlib.Core.Bool.{false}
use Rattle.model.specs.Each.{some_below}
use Rattle.edge_walks.specs.Cycle.{unreset_at}
use Rattle.edge_walks.proofs.leaves_unreset.Given as goal

abbrev pub invariant-loop-x : goal.invariant-loop-x
invariant-loop-x l = some_below l.x (unreset_at l.m) ≡ false
