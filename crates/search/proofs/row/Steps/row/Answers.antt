-- `search::row::Steps::row` meets its contract.
use native.Mathlib.Omega.{arith}
use Rattle.theory.proofs.Rows.{rows_length}
use Rattle.search.proofs.row.Steps.row.Goals as goal

pub slice_bounds-result-end : goal.slice_bounds-result-end
slice_bounds-result-end c = omega (arith, rows_length c.args.self.rows c.args.p c.requires)
