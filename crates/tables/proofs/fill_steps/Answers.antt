-- `tables::fill_steps` meets its contract.
use mathlib.Core.Path.{◌∙◌}
use Rattle.graph.proofs.States.{clocks_of, ceiling_of}
use Rattle.tables.proofs.Lent.{regions_are, table_long}
use Rattle.tables.proofs.fill_steps.Goals as goal

pub fill_later-requires : goal.fill_later-requires
fill_later-requires c =
    let m = c.args.space.now.plan.now.model in
    let ok = c.args.space.now.plan.now.lawful in
    (clocks_of m ok, ceiling_of m ok, c.args.space.now.listed, c.requires.lawful, c.requires.later_len.0 ∙ regions_are m ok)

pub fill_flow-requires : goal.fill_flow-requires
fill_flow-requires c =
    let m = c.args.space.now.plan.now.model in
    let ok = c.args.space.now.plan.now.lawful in
    let room = c.requires.later_len.1 in (
      record {
        lawful = ok;
        listed = c.args.space.now.listed;
        laters = c.fill_later.ensures;
        indexed = c.requires.lawful;
        flags = c.fill_allowed.ensures;
      },
      room.starts,
      rw (table_long m ok _ c.args.space.now.listed) room.steps,
    )
