-- `fill_index` meets its contract. The invariant: the numbers of the regions passed stand at their codes.
use Prim.Native.Nat.{ℕ, ◌<◌}
use mathlib.Core.Path.{◌≡◌}
use mathlib.Core.List.{[]}
use lib.ListN.{length, get_or}
use Rattle.theory.specs.Region.{regions}
use Rattle.region.specs.View.{struct_of}
use Rattle.limits.specs.Limits.{code_count}
use Rattle.region_steps.specs.Codes.{code_of}
use Rattle.region_steps.proofs.fill_index.Given as goal

abbrev pub invariant-loop-i : goal.invariant-loop-i
invariant-loop-i l = (length l.index ≡ code_count)
    × ((j : ℕ) → j < l.i → get_or l.index (code_of (struct_of (get_or (regions l.n l.ceiling) j []))) 0 ≡ j)
