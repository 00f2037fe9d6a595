-- `op_room::room` meets its contract.
use native.Mathlib.Omega.{arith}
use Rattle.op_room.proofs.Rooms.{states_within, room_refused, room_told}
use Rattle.op_room.proofs.room.Goals as goal

pub returns-in_err-plan : goal.returns-in_err-plan
returns-in_err-plan c = room_refused _ _ c.in_err-plan.field-0.0 c.from_residual.ensures.1 c.in_err-plan.ensures

pub sheet_limit-requires : goal.sheet_limit-requires
sheet_limit-requires c = rw c.state_count-s.ensures (states_within _ c.in_ok-plan.plan.lawful)

pub overflow_sub-result : goal.overflow_sub-result
overflow_sub-result c = omega (arith, c.state_count-s.ensures, (states_within _ c.in_ok-plan.plan.lawful).0)

pub returns : goal.returns
returns c = room_told _ c.in_ok-plan.plan c.in_ok-plan.ensures _ _ c.state_count-s.ensures c.sheet_limit.ensures
