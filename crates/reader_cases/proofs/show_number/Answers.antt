use Rattle.std.proofs.Common.{rules}
use Rattle.printing.proofs.Writes.{growing}
use Rattle.reader_cases.proofs.show_number.Goals as goal

pub returns-in_ok-digits-in-Padded : goal.returns-in_ok-digits-in-Padded
returns-in_ok-digits-in-Padded g c = search (rules, growing)

pub returns-in_ok-say-in-Refused : goal.returns-in_ok-say-in-Refused
returns-in_ok-say-in-Refused g c = search (rules, growing)
