-- The law of a step back, and that of a finished segment.
use native.Mathlib.Omega.{arith}
use mathlib.Core.Path.{refl, sym, ◌∙◌}
use Rattle.component.proofs.PassLaws.{top_le, depth_le, segs_le, segs_pos}
use Rattle.component.proofs.Ends.{pass_as, moved_as, heights_low}
use Rattle.component.proofs.Back.{entered, pass_back, pass_back_moved, pass_pop, pass_pop_moved}
use Rattle.component.proofs.Pass.retreat.Goals as goal

pub place_before-before-requires : goal.place_before-before-requires
place_before-before-requires c =
    let P = c.requires.pass in
    (c.requires.depth_nonzero.0, omega (arith, depth_le P, top_le P, P.paths), entered P c.requires.depth_nonzero.0)

pub merged-self-requires : goal.merged-self-requires
merged-self-requires c =
    let P = c.requires.pass in
    let s = segs_pos P c.requires.depth_nonzero.0 in
    (s, omega (arith, segs_le P, top_le P, P.begins), P.state.base s)

pub pop-requires-clause-heights : goal.pop-requires-clause-heights
pop-requires-clause-heights c = heights_low c.requires.pass

pub returns-then-from-self-clause-pass : goal.returns-then-from-self-clause-pass
returns-then-from-self-clause-pass c =
    let (pos, old) = c.requires.depth_nonzero in
    let B = c.place_before-before.ensures in
    let D = c.pop.ensures.dropped in
    pass_as refl D.stack D.path D.start D.top D.segs D.depth D.cur
    (pass_pop c.requires.pass pos _ B.value B.by_index _ _ old c.lowest-w.ensures c.merged-self.ensures _ D.marks
    (sym c.from.ensures ∙ c.if-from-self.true) c.pop.ensures.popped)

pub returns-then-from-self-clause-moved : goal.returns-then-from-self-clause-moved
returns-then-from-self-clause-moved c =
    let (pos, old) = c.requires.depth_nonzero in
    let B = c.place_before-before.ensures in
    let D = c.pop.ensures.dropped in
    moved_as refl D.depth
    (pass_pop_moved c.requires.pass pos _ B.value B.by_index _ _ old c.lowest-w.ensures c.merged-self.ensures _ D.marks
    (sym c.from.ensures ∙ c.if-from-self.true) c.pop.ensures.popped)

pub returns-else-from-self-clause-pass : goal.returns-else-from-self-clause-pass
returns-else-from-self-clause-pass c =
    let (pos, old) = c.requires.depth_nonzero in
    let B = c.place_before-before.ensures in
    pass_back c.requires.pass pos _ B.value B.by_index _ _ old c.lowest-w.ensures c.merged-self.ensures
    (λ e. c.if-from-self.false (c.from.ensures ∙ e))

pub returns-else-from-self-clause-moved : goal.returns-else-from-self-clause-moved
returns-else-from-self-clause-moved c =
    let (pos, old) = c.requires.depth_nonzero in
    let B = c.place_before-before.ensures in
    pass_back_moved c.requires.pass pos _ B.value B.by_index _ _ old c.lowest-w.ensures c.merged-self.ensures

pub offset_bounds-self-self : goal.offset_bounds-self-self
offset_bounds-self-self c = omega (arith, segs_le c.requires.pass, top_le c.requires.pass)

pub bounds-self-self : goal.bounds-self-self
bounds-self-self c =
    let P = c.requires.pass in
    omega (arith, segs_le P, top_le P, P.begins, c.merged-self.ensures.fewer, c.merged-self.ensures.some)
