-- Each clock below x lets the edge open.
use mathlib.Core.Path.{◌≡◌}
use mathlib.Core.Bool.{true}
use Rattle.model.specs.Each.{all_below}
use Rattle.edge_walks.specs.Opening.{opens_for}
use Rattle.edge_walks.proofs.opening.opens_alone.Given as goal

abbrev pub invariant-loop-x : goal.invariant-loop-x
invariant-loop-x l = all_below l.x (opens_for l.m l.e) ≡ true
