-- Some mark is left.
use native.Mathlib.Omega.{arith}
use mathlib.Core.Path.{ap, ◌∙◌}
use mathlib.Core.List.{List}
use Prim.Native.Nat.{ℕ}
use Rattle.limits.specs.Limits.{max_locations}
use Rattle.model.specs.Each.{some_below}
use Rattle.edge_walks.specs.Opening.{marked_at}
use Rattle.edge_walks.specs.Cycle.{has_cycle}
use Rattle.edge_walks.proofs.Opens.{any_mark}
use Rattle.edge_walks.proofs.cycle.has_cycle.Goals as goal

pub returns : goal.returns
unfolding has_cycle
returns c =
    c.any_marked.ensures ∙ any_mark c.survivors.result (omega arith)
    ∙ ap (λ (a : List ℕ). some_below max_locations (marked_at a)) c.survivors.ensures
