-- `margin::entry_limit` meets its contract: 0 at a reset, else at most the high, which is not above the ceiling.
use native.Mathlib.Nat.{min-le_left}
use native.Mathlib.Omega.{arith}
use mathlib.Core.Path.{refl, ap₂, ◌∙◌}
use Prim.Native.Nat.{min}
use lib.ListN.{get_or}
use Rattle.model.specs.Model.{slot}
use Rattle.margin.proofs.Limits.{limit_reset, limit_kept}
use Rattle.margin.proofs.entry_limit.Goals as goal

pub returns-then-m-e-eq1 : goal.returns-then-m-e-eq1
returns-then-m-e-eq1 c = (limit_reset c.args.plan.now.model c.args.e c.args.x c.if-m-e-eq1.true, omega arith)

pub returns : goal.returns
returns c =
    let high = get_or c.args.plan.now.model.upper (slot c.args.e c.args.x) 0 in (
      limit_kept c.args.plan.now.model c.args.e c.args.x c.if-m-e-eq1.false
          c.stay_limit-here.result c.stay_limit-there.result c.min.result c.min-2.result
          (rw c.from.ensures at c.stay_limit-here.ensures.0) (rw c.from-2.ensures at c.stay_limit-there.ensures.0) c.min.ensures
          (c.min-2.ensures ∙ ap₂ min c.from-high.ensures refl),
      omega (
        arith,
        c.min-2.ensures,
        min-le_left c.from-high.result c.min.result,
        c.args.plan.now.lawful.ranges.upper (slot c.args.e c.args.x),
        c.args.plan.now.lawful.ceiling.1,
      ),
    )
