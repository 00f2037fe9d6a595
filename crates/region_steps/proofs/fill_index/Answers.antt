-- `fill_index` meets its contract. The invariant: the numbers of the regions passed stand at their codes.
use native.Mathlib.Omega.{arith}
use mathlib.Core.Path.{ap, ◌∙◌}
use mathlib.Core.List.{[]}
use lib.ListN.{get_or, length-set}
use Rattle.theory.specs.Region.{regions}
use Rattle.region.proofs.Known.{known_small}
use Rattle.region_steps.proofs.Steps.{index_next}
use Rattle.region_steps.proofs.fill_index.Goals as goal

pub code-at-requires : goal.code-at-requires
code-at-requires c = known_small c.args.n c.args.ceiling c.requires.0 c.requires.1 c.region_at.result c.region_at.ensures.known

pub loop-i-preserved : goal.loop-i-preserved
loop-i-preserved c =
    let r = c.region_at in (
      simp length-set c.loop-i.invariant.0,
      index_next c.args.n c.args.ceiling c.requires.0 c.requires.1 c.loop-i.index c.loop-i.i c.code-at.result r.result
          (omega arith) r.ensures.known
          (r.ensures.result_value ∙ ap (λ i. get_or (regions c.args.n c.args.ceiling) i []) c.from.ensures)
          c.code-at.ensures.value c.loop-i.invariant.0 c.loop-i.invariant.1,
    )
