-- `table::entries` meets its contract: the table is computed from the definition, all of it.
use mathlib.Core.Path.{refl}
use Rattle.theory.specs.Region.{regions, lawful, fits}
use Rattle.region_table.specs.Table.{packed_regions}
use Rattle.region_table.proofs.table.entries.Goals as goal

pub returns : goal.returns
unfolding packed_regions regions lawful fits
returns c = refl
