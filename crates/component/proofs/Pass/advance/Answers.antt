-- The law of a step on to a new node, and what `retreat` ensures.
use native.Mathlib.Omega.{arith}
use lib.ListN.{length-set}
use Rattle.component.proofs.PassLaws.{top_le, depth_le, segs_le, none_new, step_small, step_place, step_node, step_top, pass_step, step_falls}
use Rattle.component.proofs.Ends.{pass_as, moved_as}
use Rattle.component.proofs.Pass.advance.Goals as goal

pub overflow_add-self : goal.overflow_add-self
overflow_add-self c =
    omega (arith, step_small c.requires.pass c.requires.depth_nonzero _ c.in-Some.ensures.place c.in-Some.ensures.some)

pub overflow_cast-self : goal.overflow_cast-self
overflow_cast-self c =
    omega (arith, step_small c.requires.pass c.requires.depth_nonzero _ c.in-Some.ensures.place c.in-Some.ensures.some)

pub offset_bounds-self-self : goal.offset_bounds-self-self
offset_bounds-self-self c = omega (arith, depth_le c.requires.pass, top_le c.requires.pass)

pub bounds-self-self : goal.bounds-self-self
bounds-self-self c = let P = c.requires.pass in omega (arith, depth_le P, top_le P, P.paths)

pub offset_bounds-graph-i : goal.offset_bounds-graph-i
offset_bounds-graph-i c =
    omega (arith, step_small c.requires.pass c.requires.depth_nonzero _ c.in-Some.ensures.place c.in-Some.ensures.some)

pub bounds-graph-i : goal.bounds-graph-i
bounds-graph-i c = step_place c.requires.pass c.requires.depth_nonzero _ c.in-Some.ensures.place c.in-Some.ensures.some

pub push-requires : goal.push-requires
push-requires c =
    let P = c.requires.pass in
    let t = step_node P c.requires.depth_nonzero _ c.in-Some.ensures.place c.in-Some.ensures.some in
    let k = step_top P c.requires.depth_nonzero _ c.in-Some.ensures.place c.in-Some.ensures.some in
    let d = depth_le P in
    let g = segs_le P in
    let G = P.shape.small in
    record {
      bounds = (
        omega (arith, P.marks, c.from.ensures),
        omega (arith, P.stacks),
        simp length-set (omega (arith, P.paths)),
        omega (arith, P.begins),
      );
      small = (omega arith, omega (arith, c.from.ensures));
    }

pub retreat-requires-clause-depth_nonzero : goal.retreat-requires-clause-depth_nonzero
retreat-requires-clause-depth_nonzero c =
    (c.requires.depth_nonzero, none_new c.requires.pass c.requires.depth_nonzero _ c.in-None.ensures.place (omega arith))

pub returns-in-Some-clause-pass : goal.returns-in-Some-clause-pass
returns-in-Some-clause-pass c =
    let D = rw c.from.ensures at c.push.ensures.pushed in
    pass_as D.mark D.stack D.path D.start D.top D.segs D.depth D.cur
    (pass_step c.requires.pass c.requires.depth_nonzero _ c.in-Some.ensures.place c.in-Some.ensures.some)

pub returns-in-Some-clause-moved : goal.returns-in-Some-clause-moved
returns-in-Some-clause-moved c =
    let D = rw c.from.ensures at c.push.ensures.pushed in
    moved_as D.mark D.depth (step_falls c.requires.pass c.requires.depth_nonzero _ c.in-Some.ensures.place c.in-Some.ensures.some)
