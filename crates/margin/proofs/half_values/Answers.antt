-- `margin::half_values` meets its contract: a product of three factors, each at most max_factor.
use Rattle.margin.proofs.Limits.{three_factors, product_most}
use Rattle.margin.proofs.half_values.Goals as goal

pub returns : goal.returns
returns c =
    let x = c.factor in
    let y = c.factor-2 in
    let z = c.factor-3 in (
      three_factors c.args.clocks c.args.a c.args.b c.args.c x.result y.result z.result
          c.requires.0 x.ensures.0 y.ensures.0 z.ensures.0,
      (product_most x.ensures.1 y.ensures.1 z.ensures.1).1,
    )
