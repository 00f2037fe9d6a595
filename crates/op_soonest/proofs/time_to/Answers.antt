-- `op_soonest::time_to` meets its contract, by the ways out.
use native.Mathlib.Omega.{arith}
use Rattle.op_soonest.proofs.Arrivals.{outside_told, time_told}
use Rattle.op_soonest.proofs.time_to.Goals as goal

pub returns-then-location-plan : goal.returns-then-location-plan
returns-then-location-plan c = outside_told c.args.plan.now.model c.args.location (omega arith)

pub returns : goal.returns
returns c =
    let m = c.args.plan.now.model in
    rw c.ok_or.ensures.value (time_told m c.args.location (omega arith) c.least_time.result c.least_time.ensures.value c.least_time.ensures.below)
