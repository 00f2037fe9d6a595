-- Six numbers, of three bytes at most each.
use native.Mathlib.Omega.{arith}
use Rattle.number.proofs.Spelling.{spell_all_few}
use Rattle.parser.specs.Parse.{reading_of}
use Rattle.canonical.specs.Canonical.{header_numbers}
use Rattle.plan_writer.proofs.put_header.Goals as goal

pub put_numbers-requires : goal.put_numbers-requires
put_numbers-requires c = omega (arith, spell_all_few (header_numbers (reading_of c.args.plan.now)))
