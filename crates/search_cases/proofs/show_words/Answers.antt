use Rattle.std.proofs.Common.{rules}
use Rattle.printing.proofs.Writes.{growing}
use Rattle.search_cases.proofs.show_words.Goals as goal

pub loop-number-preserved : goal.loop-number-preserved
loop-number-preserved g c = search (rules, growing)

pub returns-in_err-put : goal.returns-in_err-put
returns-in_err-put g c = search (rules, growing)
