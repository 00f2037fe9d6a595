-- `state_count` meets its contract.
use Prim.Native.Nat.{◌*◌}
use mathlib.Core.Path.{ap₂, ◌∙◌}
use Rattle.theory.specs.StateGraph.{region_count}
use Rattle.graph.specs.Plan.{automaton_of}
use Rattle.graph.proofs.state_count.Goals as goal

pub returns : goal.returns
unfolding automaton_of region_count
returns c = ap₂ (λ l k. l * k) c.from.ensures (c.from-2.ensures ∙ c.count.ensures)
