-- `margin::entry_values` meets its contract.
use Rattle.margin.proofs.Limits.{entry_values_are}
use Rattle.margin.proofs.entry_values.Goals as goal

pub returns : goal.returns
returns c =
    let x = c.entry_limit in
    let y = c.entry_limit-2 in
    let z = c.entry_limit-3 in (
      entry_values_are c.args.plan.now.model c.args.plan.now.lawful c.args.e x.result y.result z.result c.half_values.result
          x.ensures.0 y.ensures.0 z.ensures.0 c.half_values.ensures.0,
      c.half_values.ensures.1,
    )
