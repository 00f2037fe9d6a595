-- `count` meets its contract: 01's formulas, one for each number of clocks.
use native.Mathlib.Omega.{arith}
use Rattle.region_table.proofs.Counts.{one_count, two_count, three_count}
use Rattle.region_table.proofs.count.Goals as goal

pub returns-in-1 : goal.returns-in-1
returns-in-1 c = rw c.from-m.ensures (one_count _ _ c.requires.0 c.in-1.is)

pub returns-in-2 : goal.returns-in-2
returns-in-2 c = rw c.from-m.ensures (two_count _ _ c.requires.0 c.in-2.is)

pub returns-in_default : goal.returns-in_default
returns-in_default c = rw c.from-m.ensures (three_count _ _ c.requires.0 (λ e. omega arith) (λ e. omega arith))
