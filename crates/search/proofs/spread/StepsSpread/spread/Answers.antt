-- `Steps` as a relation: the successors stand in the row.
use native.Mathlib.Omega.{arith}
use Rattle.search.proofs.Queue.{takes_same}
use Rattle.search.proofs.Rows.{row_in, row_out, row_below}
use Rattle.search.proofs.spread.StepsSpread.spread.Goals as goal

pub take_all-requires-clause-states : goal.take_all-requires-clause-states
take_all-requires-clause-states c =
    let s = c.args.self.now in
    let b = rw c.requires.marks at c.requires.states.1 in
    rw c.row.ensures (λ i h. omega (arith, row_below s.rows b i h, c.requires.marks))

pub returns-clause-takes : goal.returns-clause-takes
returns-clause-takes c =
    let s = c.args.self.now in
    let b = rw c.requires.marks at c.requires.states.1 in
    takes_same (rw c.row.ensures at c.take_all.ensures.takes) (row_in s.rows b) (row_out s.rows b)
