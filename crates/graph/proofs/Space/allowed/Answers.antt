-- `allowed` meets its contract.
use Rattle.graph.proofs.States.{some_region, location_in, stays_allowed}
use Rattle.graph.proofs.Space.allowed.Goals as goal

pub nonzero_div-p : goal.nonzero_div-p
nonzero_div-p c =
    let s = c.args.self.now in
    some_region s.plan.now.model s.plan.now.lawful s.table.now s.listed c.args.p c.requires

pub stays-requires : goal.stays-requires
stays-requires c =
    let s = c.args.self.now in
    (location_in s.plan.now.model s.plan.now.lawful s.table.now s.listed c.args.p c.requires, c.region_of.ensures.0)

pub returns : goal.returns
returns c =
    let s = c.args.self.now in
    stays_allowed s.plan.now.model s.plan.now.lawful s.table.now s.listed c.args.p c.requires
    c.region_of.result c.region_of.ensures c.stays.result c.stays.ensures
