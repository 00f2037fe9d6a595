use Rattle.std.proofs.Common.{rules}
use Rattle.printing.proofs.Writes.{growing}
use Rattle.cases.proofs.plan.Goals as goal

pub returns-in_err-say-2-clause-grows : goal.returns-in_err-say-2-clause-grows
returns-in_err-say-2-clause-grows g c = search (rules, growing)

pub returns-clause-grows : goal.returns-clause-grows
returns-clause-grows g c = search (rules, growing)
