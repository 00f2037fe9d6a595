-- `tables::list_steps` meets its contract.
use mathlib.Core.Path.{sym, ◌∙◌}
use Rattle.limits.specs.Limits.{max_regions}
use Rattle.tables.proofs.Lent.{prefix_long, table_long, table_short}
use Rattle.tables.proofs.list_steps.Goals as goal

pub slice_bounds-later-end : goal.slice_bounds-later-end
slice_bounds-later-end c = table_short c.args.space.now.plan.now.model c.args.space.now.plan.now.lawful _ c.args.space.now.listed

pub slice_bounds-fill_steps-end : goal.slice_bounds-fill_steps-end
slice_bounds-fill_steps-end c = prefix_long _ max_regions (table_short c.args.space.now.plan.now.model c.args.space.now.plan.now.lawful _ c.args.space.now.listed)

pub fill_steps-requires : goal.fill_steps-requires
fill_steps-requires c =
    let long = table_long c.args.space.now.plan.now.model c.args.space.now.plan.now.lawful _ c.args.space.now.listed in
    let short = table_short c.args.space.now.plan.now.model c.args.space.now.plan.now.lawful _ c.args.space.now.listed in
    record { lawful = c.requires.lawful; later_len = (sym (prefix_long _ max_regions short) ∙ long, c.requires.step_room) }
