-- `sheet_numbers::read_numbers` meets its contract. The invariant: what is read and what is left to read are the numbers.
use Rattle.sheet_numbers.proofs.Reading.{Progress}
use Rattle.sheet_numbers.proofs.read_numbers.Given as goal

abbrev pub invariant-loop-i : goal.invariant-loop-i
invariant-loop-i l = Progress l.allowed l.initial.sheet l.bytes l.at l.sheet l.end l.i
