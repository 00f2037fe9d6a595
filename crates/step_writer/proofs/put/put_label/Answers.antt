-- Time is one number, a jump two.
use mathlib.Core.Path.{ap}
use lib.ListN.{length}
use native.Mathlib.Omega.{arith}
use Rattle.spelling.proofs.Lays.{lays_then, lays_as}
use Rattle.step_writer.proofs.Written.{time_spelled, jump_spelled, jump_length}
use Rattle.step_writer.proofs.put.put_label.Goals as goal

pub put-requires : goal.put-requires
put-requires c = let r = rw c.in-Time.is at c.requires in (omega arith, omega (arith, r.1, ap length time_spelled))

pub returns-in-Time : goal.returns-in-Time
returns-in-Time c = rw c.in-Time.is (lays_as c.put.ensures time_spelled)

pub put-end-requires : goal.put-end-requires
put-end-requires c = let r = rw c.in-Jump.is at c.requires in (omega arith, omega (arith, r.1, jump_length c.in-Jump.e))

pub put-requires-in-Jump : goal.put-requires-in-Jump
put-requires-in-Jump c =
    let r = rw c.in-Jump.is at c.requires in (omega (arith, r.0), omega (arith, c.put-end.ensures.end, r.1, jump_length c.in-Jump.e))

pub returns-in-Jump : goal.returns-in-Jump
returns-in-Jump c = rw c.in-Jump.is (lays_as (lays_then c.put-end.ensures c.put-in-Jump.ensures) (jump_spelled c.in-Jump.e))
