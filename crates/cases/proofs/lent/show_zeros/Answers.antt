use Rattle.std.proofs.Common.{rules}
use Rattle.printing.proofs.Writes.{growing}
use Rattle.cases.proofs.lent.show_zeros.Goals as goal

pub returns-in_err-show : goal.returns-in_err-show
returns-in_err-show g c = search (rules, growing)

pub returns-in_err-show-2 : goal.returns-in_err-show-2
returns-in_err-show-2 g c = search (rules, growing)

pub returns-in_err-show-3 : goal.returns-in_err-show-3
returns-in_err-show-3 g c = search (rules, growing)

pub returns : goal.returns
returns g c = search (rules, growing)
