-- `fill_later` meets its contract. The invariant: the entries passed are the numbers of time successors.
use Prim.Native.Nat.{ℕ, ◌<◌}
use mathlib.Core.Path.{◌≡◌}
use mathlib.Core.List.{[]}
use lib.ListN.{length, get_or}
use Rattle.theory.specs.Region.{successor, regions}
use Rattle.theory.specs.StateGraph.{index_in}
use Rattle.region_steps.proofs.fill_later.Given as goal

abbrev pub invariant-loop-i : goal.invariant-loop-i
invariant-loop-i l = (length l.later ≡ length (regions l.n l.ceiling))
    × ((j : ℕ) → j < l.i → get_or l.later j 0 ≡ index_in (regions l.n l.ceiling) (successor (get_or (regions l.n l.ceiling) j [])))
