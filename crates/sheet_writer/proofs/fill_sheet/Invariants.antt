-- `sheet_writer::fill_sheet` meets its contract.
use Prim.Native.Nat.{ℕ, ◌<◌}
use mathlib.Core.Path.{◌≡◌}
use lib.ListN.{get_or}
use Rattle.sheet_writer.proofs.Numbers.{found}
use Rattle.sheet_writer.proofs.fill_sheet.Given as goal

abbrev pub invariant-loop-p : goal.invariant-loop-p
invariant-loop-p l = ((k : ℕ) → k < l.p → get_or l.sheet k 0 ≡ found l.heights l.marks k)
