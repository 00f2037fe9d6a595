-- `region_of` meets its contract.
use native.Mathlib.Omega.{arith}
use Rattle.graph.proofs.States.{clocks_of, ceiling_of, some_region, region_in, region_is}
use Rattle.region_table.proofs.Listed.{listed_below}
use Rattle.graph.proofs.Space.region_of.Goals as goal

pub nonzero_rem-p : goal.nonzero_rem-p
nonzero_rem-p c =
    let s = c.args.self.now in
    some_region s.plan.now.model s.plan.now.lawful s.table.now s.listed c.args.p c.requires

pub offset_bounds-self-p : goal.offset_bounds-self-p
offset_bounds-self-p c =
    let s = c.args.self.now in
    omega (arith, region_in s.plan.now.model s.plan.now.lawful s.table.now s.listed c.args.p c.requires)

pub bounds-self-p : goal.bounds-self-p
bounds-self-p c =
    let s = c.args.self.now in
    region_in s.plan.now.model s.plan.now.lawful s.table.now s.listed c.args.p c.requires

pub unpack-requires : goal.unpack-requires
unpack-requires c =
    let s = c.args.self.now in
    listed_below s.plan.now.model.clocks s.plan.now.model.ceiling (clocks_of s.plan.now.model s.plan.now.lawful)
    (ceiling_of s.plan.now.model s.plan.now.lawful) s.table.now s.listed _
    (region_in s.plan.now.model s.plan.now.lawful s.table.now s.listed c.args.p c.requires)

pub returns : goal.returns
returns c =
    let s = c.args.self.now in
    region_is s.plan.now.model s.plan.now.lawful s.table.now s.listed c.args.p c.requires c.unpack.result c.unpack.ensures
