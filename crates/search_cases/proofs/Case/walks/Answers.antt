use Rattle.std.proofs.Common.{rules}
use Rattle.printing.proofs.Writes.{growing}
use Rattle.search_cases.proofs.Case.walks.Goals as goal

pub returns-in_err-say : goal.returns-in_err-say
returns-in_err-say g c = search (rules, growing)

pub returns-in_err-walk : goal.returns-in_err-walk
returns-in_err-walk g c = search (rules, growing)

pub loop-q-preserved : goal.loop-q-preserved
loop-q-preserved g c = search (rules, growing)
