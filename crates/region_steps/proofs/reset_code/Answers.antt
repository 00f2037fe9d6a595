-- `reset_code` meets its contract.
use mathlib.Core.Path.{ap, ap₂, ◌∙◌}
use Prim.Native.Nat.{◌+◌}
use Rattle.region_steps.specs.Codes.{closed_code}
use Rattle.region_steps.proofs.Codes.{reset_parts}
use Rattle.region_steps.proofs.reset_code.Goals as goal

pub returns-clause-value : goal.returns-clause-value
returns-clause-value c =
    ap₂ (λ w r. w + r) c.whole_code.ensures (c.from.ensures ∙ c.closed.ensures.value ∙ ap closed_code c.rank_code.ensures.value)
    ∙ reset_parts c.args.mask c.args.g c.cleared-left.result c.cleared-left.ensures.small c.cleared-left.ensures.value
