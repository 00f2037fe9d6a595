-- `reset_number` meets its contract.
use mathlib.Core.Path.{ap, ◌∙◌}
use lib.ListN.{get_or}
use Rattle.region_steps.proofs.Steps.{reset_at}
use Rattle.region_steps.proofs.reset_number.Goals as goal

pub returns : goal.returns
returns c =
    let a = c.args in
    λ n M clocks ceiling v w. c.from.ensures
    ∙ ap (λ p. get_or a.index.now p 0) c.reset_code.ensures.value
    ∙ reset_at n M clocks ceiling a.index.now v a.g w a.mask
