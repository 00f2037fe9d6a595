-- `search::count_reached` meets its contract.
use mathlib.Core.Path.{◌≡◌, ◌∙◌}
use lib.Dec.{ltb}
use Rattle.std.proofs.Common.{rules}
use Rattle.std.specs.Prelude.{count_by}
use Rattle.search.proofs.Count.{count_listed}
use Rattle.search.proofs.count_reached.Goals as goal

pub returns : goal.returns
returns c = let e : c.count.result ≡ count_by (ltb 0) c.args.level.now = search rules in e ∙ count_listed c.args.level.now
