-- `select` meets its contract: the entries before i have been tried or cannot pass, and those that pass stand at the front.
use Prim.Native.Nat.{◌-◌}
use mathlib.Core.Path.{◌≡◌}
use Rattle.limits.specs.Limits.{max_regions}
use Rattle.region_table.specs.Table.{packed, chosen}
use Rattle.region_table.proofs.Selection.{Filled}
use Rattle.region_table.proofs.select.Given as goal

abbrev pub invariant-loop-i : goal.invariant-loop-i
invariant-loop-i l = (l.all ≡ packed) × Filled (chosen l.n l.ceiling) packed l.initial.out l.out l.i l.k

abbrev pub decreases-loop-i : goal.decreases-loop-i
decreases-loop-i l = max_regions - l.i
