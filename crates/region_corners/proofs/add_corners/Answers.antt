-- `add_corners` meets its contract: the corners go into the part behind the faces.
use native.Mathlib.Omega.{arith}
use Prim.Native.Nat.{◌≤◌}
use mathlib.Core.Path.{◌≡◌, ap, ◌∙◌}
use lib.ListN.{length}
use Rattle.limits.specs.Limits.{max_regions}
use Rattle.theory.specs.Region.{regions}
use Rattle.shapes.specs.Layout.{corners_at, links_at}
use Rattle.region_table.proofs.Listed.{listed_length}
use Rattle.region_table.proofs.Counts.{regions_few}
use Rattle.region_corners.proofs.Shapes.{shapes_filled}
use Rattle.region_corners.proofs.add_corners.Goals as goal
use Rattle.region_corners.proofs.add_corners.Goals.{Start}

-- an entry for each region
entries : (s : Start) → length s.args.table.now ≡ length (regions s.args.n s.args.ceiling)
entries s = listed_length s.args.n s.args.ceiling s.requires.0 s.requires.1 s.args.table.now s.requires.2

few : (s : Start) → length s.args.table.now ≤ max_regions
few s = omega (arith, entries s, regions_few s.args.n s.args.ceiling s.requires.0 s.requires.1)

pub corners_at-corners-requires : goal.corners_at-corners-requires
corners_at-corners-requires c = few (goal.at.corners_at-corners-requires c).Start

pub links_at-links-requires : goal.links_at-links-requires
links_at-links-requires c = few (goal.at.links_at-links-requires c).Start

pub offset_bounds-shapes-corners : goal.offset_bounds-shapes-corners
offset_bounds-shapes-corners c = omega (arith, few (goal.at.offset_bounds-shapes-corners c).Start)

pub slice_bounds-fill_corners-end : goal.slice_bounds-fill_corners-end
slice_bounds-fill_corners-end c = omega (arith, entries (goal.at.slice_bounds-fill_corners-end c).Start, c.requires.3.long)

pub fill_corners-requires : goal.fill_corners-requires
fill_corners-requires c = (c.requires.0, c.requires.1, c.requires.2, c.fill_corners-arg-1.given.2 ∙ omega (arith, entries (goal.at.fill_corners-requires c).Start))

pub returns : goal.returns
returns c =
    let filled = c.fill_corners in
    shapes_filled c.args.shapes.now filled.new.corner (c.corners_at-corners.ensures ∙ ap corners_at (entries (goal.at.returns c).Start))
    (c.links_at-links.ensures ∙ ap links_at (entries (goal.at.returns c).Start)) c.requires.3 c.shapes-1.given.0 filled.ensures
