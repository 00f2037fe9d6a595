-- `op_room::sheet_limit` meets its contract.
use Prim.Native.Nat.{ℕ, ◌+◌, ◌*◌}
use native.Mathlib.Omega.{arith}
use mathlib.Core.Path.{ap}
use Rattle.op_room.specs.Room.{sheet_limit}
use Rattle.op_room.proofs.Limits.{product_few}
use Rattle.op_room.proofs.sheet_limit.Goals as goal

pub overflow_mul-result : goal.overflow_mul-result
unfolding sheet_limit
overflow_mul-result c = omega (arith, product_few c.args.s _ _ c.shortest_length.ensures)

pub overflow_add-result : goal.overflow_add-result
unfolding sheet_limit
overflow_add-result c = omega (arith, product_few c.args.s _ _ c.shortest_length.ensures)

pub returns : goal.returns
unfolding sheet_limit
returns c = ap (λ (k : ℕ). c.args.s * k + 1) c.shortest_length.ensures
