-- The tables as a relation: the three parts are all that p leads to, and the third is empty without touch steps.
use mathlib.Core.Path.{◌∙◌}
use native.Mathlib.Omega.{arith}
use Rattle.search.proofs.Queue.{takes_none, takes_same}
use Rattle.search.proofs.Rows.{row_in, row_out, row_below}
use Rattle.marking.proofs.Corners.{visits_more, ready_more}
use Rattle.marking.proofs.Leading.{region_below, location_below, touch_none, leads_all, faces_below, faces_taken}
use Rattle.marking.proofs.Along.{ready_of}
use Rattle.marking.proofs.reach.WaysSpread.spread.Goals as goal

pub take_all-requires-clause-states : goal.take_all-requires-clause-states
take_all-requires-clause-states c =
    let s = c.args.self.now.steps in
    let n = c.requires.marks.nodes in
    let b = rw n at c.requires.states.1 in
    rw c.row.ensures (λ i h. omega (arith, row_below s.rows b i h, n))

pub take_all-requires-2-clause-states : goal.take_all-requires-2-clause-states
take_all-requires-2-clause-states c =
    let n = c.take_all.ensures.takes.takes.long in
    rw c.faces.ensures (λ i h. omega (arith, n, faces_below c.requires.marks.tables c.args.p c.requires.states.1 i h))

pub take_corners-requires : goal.take_corners-requires
take_corners-requires c =
    let T = c.requires.marks.tables in
    let A = c.take_all.ensures.takes.takes in
    let B = c.take_all-2.ensures.takes.takes in
    let R = ready_of c.requires.states.0 c.requires.marks c.requires.states.2 in
    (rw (B.long, A.long) (location_below T c.args.p c.requires.states.1), region_below T c.args.p, rw c.if-self.true at (ready_more (ready_more R A) B))

pub returns-then-self-clause-takes : goal.returns-then-self-clause-takes
returns-then-self-clause-takes c =
    let w = c.args.self.now in
    let b = rw c.requires.marks.nodes at c.requires.states.1 in
    let A = takes_same (rw c.row.ensures at c.take_all.ensures.takes) (row_in w.steps.rows b) (row_out w.steps.rows b) in
    let B = faces_taken c.requires.marks.tables c.args.p (rw c.faces.ensures at c.take_all-2.ensures.takes) in
    leads_all c.requires.marks.tables c.args.p A B c.take_corners.ensures.takes.all

pub returns-else-self-clause-takes : goal.returns-else-self-clause-takes
returns-else-self-clause-takes c =
    let w = c.args.self.now in
    let T = c.requires.marks.tables in
    let b = rw c.requires.marks.nodes at c.requires.states.1 in
    let A = takes_same (rw c.row.ensures at c.take_all.ensures.takes) (row_in w.steps.rows b) (row_out w.steps.rows b) in
    let B = faces_taken T c.args.p (rw c.faces.ensures at c.take_all-2.ensures.takes) in
    leads_all T c.args.p A B (record { takes = takes_none B.takes.fits; covers = λ q t. absurd (touch_none T c.args.p c.if-self.false q t) })

pub returns-else-self-clause-marks : goal.returns-else-self-clause-marks
returns-else-self-clause-marks c =
    let m = c.requires.marks in
    let A = c.take_all.ensures.takes.takes in
    let B = c.take_all-2.ensures.takes.takes in
    let l = B.long ∙ A.long in
    record { nodes = l ∙ m.nodes; tables = rw l m.tables; spots = rw l m.spots; visits = visits_more (visits_more m.visits A) B }
