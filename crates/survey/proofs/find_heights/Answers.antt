-- `survey::find_heights` meets its contract.
use mathlib.Core.Path.{refl, sym, ◌∙◌}
use Rattle.survey.proofs.Heights.{component_shape, heights_found, heights_none}
use Rattle.survey.proofs.find_heights.Goals as goal

pub components-requires : goal.components-requires
components-requires c =
    let long = c.requires.scratch in record { graph_lists = rw long.first (component_shape c.args.plan.now.model c.args.plan.now.lawful c.requires.lawful); mark_len = (refl, long.second ∙ sym long.first, long.third ∙ sym long.first, long.fourth ∙ sym long.first) }

pub returns-then-touch : goal.returns-then-touch
returns-then-touch c =
    let found = c.components in
    let long = c.requires.scratch.first in
    heights_found c.args.plan.now.model c.args.plan.now.lawful c.requires.lawful c.if-touch.true (found.auto.mark ∙ long) (rw long at found.ensures)

pub returns : goal.returns
returns c = heights_none _ c.if-touch.false c.requires.scratch.first (c.fill.ensures.after (λ y e. e))
