-- `time_step` meets its contract.
use mathlib.Core.Path.{sym, ◌∙◌}
use Rattle.graph.proofs.States.{clocks_of, small_of, some_region, location_in, time_shut, time_ends, time_known, time_moves}
use Rattle.graph.proofs.Space.time_step.Goals as goal

pub nonzero_div-l : goal.nonzero_div-l
nonzero_div-l c =
    let s = c.args.self.now in
    some_region s.plan.now.model s.plan.now.lawful s.table.now s.listed c.args.p c.requires

pub stays-requires : goal.stays-requires
stays-requires c =
    let s = c.args.self.now in
    (location_in s.plan.now.model s.plan.now.lawful s.table.now s.listed c.args.p c.requires, c.region_of-here.ensures.0)

pub returns-then-not-stays : goal.returns-then-not-stays
returns-then-not-stays c =
    let s = c.args.self.now in
    time_shut s.plan.now.model s.plan.now.lawful s.table.now s.listed c.args.p c.requires c.region_of-here.result
    c.region_of-here.ensures c.stays.result c.stays.ensures c.if-not-stays.true

pub successor-requires : goal.successor-requires
successor-requires c =
    let s = c.args.self.now in
    (clocks_of s.plan.now.model s.plan.now.lawful, small_of s.plan.now.model s.plan.now.lawful c.region_of-here.result c.region_of-here.ensures.0)

pub returns-in_err-later : goal.returns-in_err-later
returns-in_err-later c =
    let s = c.args.self.now in
    c.from_residual.ensures
    ∙ time_ends s.plan.now.model s.plan.now.lawful s.table.now s.listed c.args.p c.requires c.region_of-here.result
    c.region_of-here.ensures c.stays.result c.stays.ensures
    c.if-not-stays.false (sym c.successor.ensures ∙ c.in_err-later.was)

pub state_at-requires : goal.state_at-requires
state_at-requires c =
    let s = c.args.self.now in (
      location_in s.plan.now.model s.plan.now.lawful s.table.now s.listed c.args.p c.requires,
      time_known s.plan.now.model s.plan.now.lawful s.table.now s.listed c.args.p c.requires
          c.region_of-here.result c.region_of-here.ensures c.stays.result c.stays.ensures
          c.in_ok-later.later (sym c.successor.ensures ∙ c.in_ok-later.was),
    )

pub returns : goal.returns
returns c =
    let s = c.args.self.now in
    time_moves s.plan.now.model s.plan.now.lawful s.table.now s.listed c.args.p c.requires
    c.region_of-here.result c.region_of-here.ensures c.stays.result c.stays.ensures
    c.in_ok-later.later (sym c.successor.ensures ∙ c.in_ok-later.was)
    c.if-not-stays.false c.state_at.result c.state_at.ensures
