-- The power is at least 1 and fits a byte.
use Prim.Native.Nat.{ℕ, ◌-◌, ◌*◌, ◌%◌, ◌≤◌, ◌<◌, ◌^◌}
use native.Mathlib.Omega.{arith}
use mathlib.Core.Path.{◌≡◌, ap}
use lib.Dec.{eqb}
use lib.Pow.{pow_pos, pow-lt}
use Rattle.limits.specs.Limits.{max_clocks}
use Rattle.edge_walks.proofs.joint.resets_every.Goals as goal

small : (n : ℕ) → n ≤ max_clocks → 2 ^ n < 2 ^ 8
small n h = pow-lt {i = n} {j = 8} (omega arith)

shifted : (n : ℕ) → n ≤ max_clocks → 1 * 2 ^ n % 2 ^ 8 - 1 ≡ 2 ^ n - 1
shifted n h = omega (arith, small n h)

pub overflow_sub-all : goal.overflow_sub-all
overflow_sub-all c = omega (arith, small c.args.n c.requires, pow_pos c.args.n)

pub returns : goal.returns
returns c = ap (eqb c.args.mask) (shifted c.args.n c.requires)
