-- The power is at least 1 and fits a byte.
use Prim.Native.Nat.{◌<◌, ◌^◌}
use native.Mathlib.Omega.{arith}
use lib.Pow.{pow_pos, pow-lt}
use Rattle.parser.proofs.largest_mask.Goals as goal

pub overflow_sub-result : goal.overflow_sub-result
overflow_sub-result c =
    let n = c.args.n in
    let small : 2 ^ n < 2 ^ 8 = pow-lt {i = n} {j = 8} (omega arith) in
    omega (arith, pow_pos n)

pub returns : goal.returns
returns c =
    let n = c.args.n in
    let small : 2 ^ n < 2 ^ 8 = pow-lt {i = n} {j = 8} (omega arith) in
    omega (arith, pow_pos n)
