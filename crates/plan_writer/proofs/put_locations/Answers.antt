-- After l turns the first l are laid.
use native.Mathlib.Omega.{arith}
use mathlib.Core.List.{[]}
use Rattle.parser.specs.Parse.{reading_of}
use Rattle.canonical.specs.Canonical.{stay_numbers, location_numbers}
use Rattle.plan_writer.proofs.Laid.{laid_none, laid_next, room_next}
use Rattle.plan_writer.proofs.put_locations.Goals as goal

pub loop-l-init : goal.loop-l-init
loop-l-init c = laid_none _ _ _

pub put_location-end-requires-clause-room : goal.put_location-end-requires-clause-room
put_location-end-requires-clause-room c =
    let r = reading_of c.args.plan.now in
    room_next [] (location_numbers (stay_numbers r) r) r.model.locations _ c.requires c.loop-l.invariant (omega arith)

pub loop-l-preserved : goal.loop-l-preserved
loop-l-preserved c =
    let r = reading_of c.args.plan.now in
    laid_next [] (location_numbers (stay_numbers r) r) _ c.loop-l.invariant c.put_location-end.ensures
