-- `forbidden` meets its contract.
use native.Mathlib.Omega.{arith}
use Rattle.graph.proofs.States.{some_region, location_in, forbidden_is}
use Rattle.graph.proofs.Space.forbidden.Goals as goal

pub nonzero_div-l : goal.nonzero_div-l
nonzero_div-l c =
    let s = c.args.self.now in
    some_region s.plan.now.model s.plan.now.lawful s.table.now s.listed c.args.p c.requires

pub bounds-self-l : goal.bounds-self-l
bounds-self-l c =
    let s = c.args.self.now in
    omega (
      arith,
      location_in s.plan.now.model s.plan.now.lawful s.table.now s.listed c.args.p
          c.requires,
      s.plan.now.lawful.locations.1,
      s.plan.now.lawful.sizes.kind,
    )

pub returns : goal.returns
returns c =
    let s = c.args.self.now in
    forbidden_is s.plan.now.model s.plan.now.lawful s.table.now s.listed c.args.p c.requires
