-- `sheet_writer::put_sheet` meets its contract.
use Rattle.theory.specs.Below.{tab}
use Rattle.number.specs.Number.{spell_all}
use Rattle.spelling.specs.Lays.{Lays}
use Rattle.sheet_writer.proofs.Numbers.{found}
use Rattle.sheet_writer.proofs.put_sheet.Given as goal

-- the number 1 stands before `end₀`
abbrev pub invariant-loop-p : goal.invariant-loop-p
invariant-loop-p l = Lays l.initial.out l.out l.initial.end l.end (spell_all (tab l.p (found l.heights l.marks)))
