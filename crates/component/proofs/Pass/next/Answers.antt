-- The path's last cursor is a place of the current node's successors.
use native.Mathlib.Omega.{arith}
use Rattle.component.proofs.GraphLaws.{place_at}
use Rattle.component.proofs.PassLaws.{cur_node, depth_le, top_le}
use Rattle.component.proofs.Pass.next.Goals as goal

pub offset_bounds-self-self-2 : goal.offset_bounds-self-self-2
offset_bounds-self-self-2 c = omega (arith, depth_le c.requires.0, top_le c.requires.0)

pub bounds-self-self-2 : goal.bounds-self-self-2
bounds-self-self-2 c = omega (arith, depth_le c.requires.0, top_le c.requires.0, c.requires.0.paths)

pub bounds-graph-i : goal.bounds-graph-i
bounds-graph-i c =
    let P = c.requires.0 in
    (place_at _ _ _ P.shape _ c.loop-i.i (cur_node P c.requires.1) (rw c.from-v.ensures at c.loop-i-test.true)).0

pub bounds-self-from : goal.bounds-self-from
bounds-self-from c =
    let P = c.requires.0 in
    let l = (place_at _ _ _ P.shape _ c.loop-i.i (cur_node P c.requires.1) (rw c.from-v.ensures at c.loop-i-test.true)).1 in
    omega (arith, l, P.marks)
