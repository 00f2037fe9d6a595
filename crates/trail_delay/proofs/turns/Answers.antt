-- `trail_delay::turns` meets its contract.
use native.Mathlib.Omega.{arith}
use Prim.Native.Nat.{ℕ, suc, ◌+◌, ◌*◌}
use mathlib.Core.Path.{◌≡◌, refl, ap}
use Rattle.trail_delay.proofs.Jumps.{base_most, corners_most, rate_most}
use Rattle.trail_delay.proofs.turns.Goals as goal

pub overflow_mul-result-2 : goal.overflow_mul-result-2
overflow_mul-result-2 c = omega (arith, base_most c.requires.0 c.requires.1)

pub overflow_mul-result-3 : goal.overflow_mul-result-3
overflow_mul-result-3 c = omega (arith, corners_most c.requires.0)

pub overflow_mul-result-4 : goal.overflow_mul-result-4
overflow_mul-result-4 c = omega (arith, rate_most c.requires.0 c.requires.1)

pub returns : goal.returns
returns c =
    let s : c.args.rank + 1 ≡ suc c.args.rank = omega arith in record { base_value = (refl, ap (λ (k : ℕ). k * k * c.args.jumps) s); few_jumps = record { base = base_most c.requires.0 c.requires.1; rate = rate_most c.requires.0 c.requires.1 } }
