use Rattle.std.proofs.Common.{rules}
use Rattle.printing.proofs.Writes.{growing}
use Rattle.cases.proofs.answers.show.Goals as goal

pub returns : goal.returns
returns g c = search (rules, growing)
