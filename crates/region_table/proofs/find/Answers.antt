-- `find` meets its contract: the library's search finds a number where it stands, and no other.
use mathlib.Core.Path.{◌∙◌}
use Rattle.region_table.proofs.Lookup.{search_found}
use Rattle.region_table.proofs.find.Goals as goal

pub returns : goal.returns
returns c = c.ok.ensures.value ∙ search_found c.args.regions.now c.args.p c.binary_search.result c.requires c.binary_search.ensures.position
