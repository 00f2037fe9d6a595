use Rattle.std.proofs.Common.{rules}
use Rattle.printing.proofs.Writes.{growing}
use Rattle.search_cases.proofs.Case.walk.Goals as goal

pub returns : goal.returns
returns g c = search (rules, growing)
