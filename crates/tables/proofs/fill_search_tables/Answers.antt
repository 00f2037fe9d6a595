-- `tables::fill_search_tables` meets its contract.
use mathlib.Core.Path.{◌≡◌, ◌∙◌}
use lib.ListN.{length}
use Rattle.theory.specs.Region.{regions}
use Rattle.graph.proofs.States.{clocks_of, ceiling_of}
use Rattle.region_corners.proofs.Shapes.{linked_search, slotted, linked}
use Rattle.tables.proofs.Lent.{regions_are, table_long}
use Rattle.tables.proofs.fill_search_tables.Goals as goal
use Rattle.tables.proofs.fill_search_tables.Goals.{Start}

-- an entry for each region
entries : (s : Start) → length s.args.space.now.table.now ≡ length (regions s.args.space.now.plan.now.model.clocks s.args.space.now.plan.now.model.ceiling)
entries s =
    let p = s.args.space.now.plan.now in
    table_long p.model p.lawful _ s.args.space.now.listed ∙ regions_are p.model p.lawful

pub link_corners-requires : goal.link_corners-requires
link_corners-requires c = slotted (entries (goal.at.link_corners-requires c).Start) c.fill_tables.ensures.by_region (clocks_of c.args.space.now.plan.now.model c.args.space.now.plan.now.lawful) (ceiling_of c.args.space.now.plan.now.model c.args.space.now.plan.now.lawful)

pub returns : goal.returns
returns c =
    let tables = c.fill_tables.ensures in
    let chained = c.link_corners.ensures in
    record { by_state = tables.by_state; by_region = linked_search _ (linked (entries (goal.at.returns c).Start) tables.by_region chained) }
