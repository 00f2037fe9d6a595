use Rattle.std.proofs.Common.{rules}
use Rattle.printing.proofs.Writes.{growing}
use Rattle.search_cases.proofs.answer.Goals as goal

pub returns-then-letter-eq35 : goal.returns-then-letter-eq35
returns-then-letter-eq35 g c = search (rules, growing)

pub returns-in_err-say-2 : goal.returns-in_err-say-2
returns-in_err-say-2 g c = search (rules, growing)

pub returns-in_err-graph : goal.returns-in_err-graph
returns-in_err-graph g c = search (rules, growing)

pub returns : goal.returns
returns g c = search (rules, growing)
