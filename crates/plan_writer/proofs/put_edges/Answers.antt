-- After e turns the first e are laid.
use native.Mathlib.Omega.{arith}
use mathlib.Core.List.{[]}
use Rattle.parser.specs.Parse.{reading_of}
use Rattle.canonical.specs.Canonical.{edge_numbers}
use Rattle.plan_writer.proofs.Laid.{laid_none, laid_next, room_next}
use Rattle.plan_writer.proofs.put_edges.Goals as goal

pub loop-e-init : goal.loop-e-init
loop-e-init c = laid_none _ _ _

pub put_edge-end-requires-clause-room : goal.put_edge-end-requires-clause-room
put_edge-end-requires-clause-room c =
    let r = reading_of c.args.plan.now in
    room_next [] (edge_numbers r) r.model.edges _ c.requires c.loop-e.invariant (omega arith)

pub loop-e-preserved : goal.loop-e-preserved
loop-e-preserved c = laid_next [] (edge_numbers (reading_of c.args.plan.now)) _ c.loop-e.invariant c.put_edge-end.ensures
