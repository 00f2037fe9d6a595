-- `number_of` meets its contract.
use mathlib.Core.Path.{ap, ◌∙◌}
use lib.ListN.{get_or}
use Rattle.region_steps.proofs.Codes.{indexed_at}
use Rattle.region_steps.proofs.number_of.Goals as goal

pub returns : goal.returns
returns c =
    let a = c.args in
    λ n M v w. c.from.ensures ∙ ap (λ p. get_or a.index.now p 0) c.code.ensures.value ∙ indexed_at n M a.index.now v a.g w
