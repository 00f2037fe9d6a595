use Rattle.std.proofs.Common.{rules}
use Rattle.printing.proofs.Writes.{growing}
use Rattle.reader_cases.proofs.show_bytes.Goals as goal

pub returns-in_err-show_byte : goal.returns-in_err-show_byte
returns-in_err-show_byte g c = search (rules, growing)

pub loop-byte-preserved : goal.loop-byte-preserved
loop-byte-preserved g c = search (rules, growing)

pub returns : goal.returns
returns g c = search (rules, growing)
