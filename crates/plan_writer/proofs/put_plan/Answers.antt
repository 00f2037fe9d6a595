-- Header, locations, edges.
use Rattle.model.specs.Each.{gather}
use Rattle.parser.specs.Parse.{reading_of}
use Rattle.canonical.specs.Canonical.{header_numbers, stay_numbers, location_numbers, numbers_of, plan_numbers, shortest_plan}
use Rattle.plan_writer.proofs.Laid.{laid_then, room_first, room_then, plan_room}
use Rattle.plan_writer.proofs.put_plan.Goals as goal

pub put_locations-edges-requires : goal.put_locations-edges-requires
put_locations-edges-requires c =
    let r = reading_of c.args.plan.now in
    room_first _ _ _ (room_then (header_numbers r) _ (plan_room r c.args.plan.now.lawful) c.put_header-locations.ensures)

pub put_edges-requires : goal.put_edges-requires
put_edges-requires c =
    let r = reading_of c.args.plan.now in
    room_then (gather r.model.locations (location_numbers (stay_numbers r) r)) _
    (room_then (header_numbers r) _ (plan_room r c.args.plan.now.lawful) c.put_header-locations.ensures) c.put_locations-edges.ensures

pub returns : goal.returns
unfolding shortest_plan plan_numbers numbers_of
returns c =
    let r = reading_of c.args.plan.now in
    laid_then (header_numbers r) _ c.put_header-locations.ensures
    (laid_then (gather r.model.locations (location_numbers (stay_numbers r) r)) _ c.put_locations-edges.ensures c.put_edges.ensures)
