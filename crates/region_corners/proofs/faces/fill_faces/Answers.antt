-- `faces::fill_faces` meets its contract. The invariant: the rows of the regions passed hold their faces.
use native.Mathlib.Omega.{arith}
use Prim.Native.Nat.{◌≤◌}
use mathlib.Core.Path.{◌≡◌, ap, ◌∙◌}
use lib.ListN.{length}
use Rattle.limits.specs.Limits.{max_regions}
use Rattle.theory.specs.Region.{regions}
use Rattle.shapes.specs.Layout.{faces_at, corners_at}
use Rattle.region_table.proofs.Listed.{listed_length, listed_below}
use Rattle.region_table.proofs.Counts.{regions_few}
use Rattle.region_corners.proofs.Numbers.{At, at_listed, at_small}
use Rattle.region_corners.proofs.FaceRows.{laid_room, laid_legal, laid_small, laid_next, laying_start, laying_next}
use Rattle.region_corners.proofs.faces.fill_faces.Goals as goal
use Rattle.region_corners.proofs.faces.fill_faces.Goals.{Start, After-unpack-g}

-- an entry for each region
entries : (s : Start) → length s.args.table.now ≡ length (regions s.args.n s.args.ceiling)
entries s = listed_length s.args.n s.args.ceiling s.requires.0 s.requires.1 s.args.table.now s.requires.2

few : (s : Start) → length s.args.table.now ≤ max_regions
few s = omega (arith, entries s, regions_few s.args.n s.args.ceiling s.requires.0 s.requires.1)

-- the region of the entry
here : (c : After-unpack-g) → At c.args.n c.args.ceiling c.loop-i.i c.unpack-g.result
here c = at_listed c.requires.0 c.requires.1 c.requires.2 c.loop-i.i (omega arith) c.unpack-g.ensures

pub faces_at-faces-requires : goal.faces_at-faces-requires
faces_at-faces-requires c = few (goal.at.faces_at-faces-requires c).Start

pub corners_at-corners-requires : goal.corners_at-corners-requires
corners_at-corners-requires c = few (goal.at.corners_at-corners-requires c).Start

pub loop-i-init : goal.loop-i-init
loop-i-init c =
    laying_start c.args.shapes.now c.requires.4 (c.faces_at-faces.ensures ∙ ap faces_at (entries (goal.at.loop-i-init c).Start))
    (c.corners_at-corners.ensures ∙ ap corners_at (entries (goal.at.loop-i-init c).Start))

pub unpack-g-requires : goal.unpack-g-requires
unpack-g-requires c =
    listed_below c.args.n c.args.ceiling c.requires.0 c.requires.1 c.args.table.now c.requires.2 c.loop-i.i (omega arith)

pub put_faces-at-requires : goal.put_faces-at-requires
put_faces-at-requires c =
    let p = c.requires in
    let A = here (goal.at.put_faces-at-requires c).After-unpack-g in (
      at_small p.0 p.1 A,
      laid_room p.0 p.1 p.3 c.loop-i.invariant.laid A,
      laid_legal p.0 p.1 p.3 c.loop-i.invariant.laid A,
    )

pub overflow_cast-shapes : goal.overflow_cast-shapes
overflow_cast-shapes c =
    let p = c.requires in
    let e = c.put_faces-at.ensures in
    omega (arith, laid_small p.0 p.1 p.3 c.loop-i.invariant.laid (here (goal.at.overflow_cast-shapes c).After-unpack-g) e.value e.looked_up)

pub loop-i-preserved : goal.loop-i-preserved
loop-i-preserved c =
    let p = c.requires in
    let q = c.put_faces-at in
    let A = here (goal.at.loop-i-preserved c).After-unpack-g in
    laying_next q.new.faces c.loop-i.invariant A.below c.shapes-1.given.0
    (laid_next p.0 p.1 p.3 c.loop-i.invariant.laid A q.ensures.value q.ensures.looked_up)
