-- `least_time::least_time` meets its contract.
use native.Mathlib.Omega.{arith}
use mathlib.Core.Path.{◌≡◌, ◌∙◌}
use lib.ListN.{length, take}
use Rattle.graph.proofs.States.{some_region}
use Rattle.region_table.proofs.Listed.{front_selected, front_length}
use Rattle.least_time.proofs.Models.{start_in, location_in}
use Rattle.least_time.proofs.Location.{location_time}
use Rattle.least_time.proofs.least_time.Goals as goal

pub least-requires : goal.least-requires
least-requires c =
    let s = c.select-r in
    let m = c.args.plan.now.model in
    let ok = c.args.plan.now.lawful in
    let table = take s.result s.new.out in
    let listed = front_selected _ _ _ _ _ s.ensures.value s.ensures.out_after in
    let e : s.result ≡ length table = front_length _ _ _ _ _ s.ensures.value s.ensures.out_after in
    rw e (some_region m ok table listed _ (start_in m ok table listed), omega (arith, c.times.auto.level, c.requires.1, location_in m ok table listed c.args.location c.requires.0))

pub returns : goal.returns
returns c =
    let s = c.select-r in
    let m = c.args.plan.now.model in
    let table = take s.result s.new.out in
    let listed = front_selected _ _ _ _ _ s.ensures.value s.ensures.out_after in
    let e : s.result ≡ length table = front_length _ _ _ _ _ s.ensures.value s.ensures.out_after in
    let found = location_time m c.args.plan.now.lawful table listed c.args.location c.times.new.level (c.times.auto.level ∙ c.requires.1) c.times.ensures (rw e at c.least.ensures) in
    record { value = found.0; below = found.1 }
