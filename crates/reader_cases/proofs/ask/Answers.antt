use Rattle.std.proofs.Common.{rules}
use Rattle.printing.proofs.Writes.{growing}
use Rattle.reader_cases.specs.Replied.{replied}
use Rattle.reader_cases.proofs.ask.Goals as goal

pub returns-in_err-say-clause-grows : goal.returns-in_err-say-clause-grows
returns-in_err-say-clause-grows g c = search (rules, growing)

pub returns-in_err-digits-clause-grows : goal.returns-in_err-digits-clause-grows
returns-in_err-digits-clause-grows g c = search (rules, growing)

pub returns-in_err-say-2-clause-grows : goal.returns-in_err-say-2-clause-grows
returns-in_err-say-2-clause-grows g c = search (rules, growing)

pub returns-clause-grows : goal.returns-clause-grows
returns-clause-grows g c = search (rules, growing)

pub returns-clause-reply : goal.returns-clause-reply
unfolding replied
returns-clause-reply g c = search rules
