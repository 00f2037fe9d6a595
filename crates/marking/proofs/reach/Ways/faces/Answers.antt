-- `marking::reach::Ways::faces` meets its contract.
use Prim.Native.Nat.{◌+◌, ◌≤◌}
use mathlib.Core.Path.{◌≡◌, ap}
use native.Mathlib.Omega.{arith}
use lib.ListN.{length, get_or}
use Rattle.shapes.specs.Layout.{rows_in, faces_in}
use Rattle.theory.proofs.Rows.{rows_length}
use Rattle.marking.proofs.reach.Ways.faces.Goals as goal

pub slice_bounds-result-end : goal.slice_bounds-result-end
slice_bounds-result-end c =
    let s = c.args.self in
    let e : c.from-to.result ≡ get_or (rows_in s.regions s.shapes.now) (c.args.i + 1) 0 = rw (← c.rows_of-rows.ensures) c.from-to.ensures in
    let l : c.from-to.result ≤ length (faces_in s.regions s.shapes.now) = omega (arith, rows_length c.requires.1.face c.args.i c.requires.0) in
    let d : c.from-from.result ≡ get_or (rows_in s.regions s.shapes.now) c.args.i 0 = rw (← c.rows_of-rows.ensures) c.from-from.ensures in
    omega (arith, c.requires.1.face.ascends c.args.i c.requires.0, ap length c.faces_of.ensures)
