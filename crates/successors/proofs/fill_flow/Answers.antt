-- `successors::fill_flow` meets its contract. The invariant: the rows of the locations below l are put.
use native.Mathlib.Omega.{arith}
use Rattle.successors.proofs.Filling.{flow_room, flow_end}
use Rattle.successors.proofs.fill_flow.Goals as goal

pub fill_location-n-requires : goal.fill_location-n-requires
fill_location-n-requires c =
    let o = c.loop-l.invariant in
    (omega (arith, c.from-l-end.ensures), o.0, flow_room c.requires.0 (rw o.1 c.requires.2), o.2)

pub returns : goal.returns
returns c =
    let o = c.loop-l.invariant in
    flow_end c.requires.0 (omega (arith, c.from-l-end.ensures)) o.0 (rw o.1 c.requires.2) o.2
