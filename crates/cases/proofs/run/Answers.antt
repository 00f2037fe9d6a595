use Rattle.std.proofs.Common.{rules}
use Rattle.printing.proofs.Writes.{growing}
use Rattle.cases.proofs.run.Goals as goal

pub returns-in_err-show_zeros : goal.returns-in_err-show_zeros
returns-in_err-show_zeros g c = search (rules, growing)

pub returns : goal.returns
returns g c = search (rules, growing)
