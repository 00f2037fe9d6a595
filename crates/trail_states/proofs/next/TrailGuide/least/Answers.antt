-- The tables as a guide: the three parts are all that p leads to, and the third is empty without touch steps.
use native.Mathlib.Omega.{arith}
use Rattle.search.proofs.Scan.{least_kept}
use Rattle.marking.proofs.Leading.{touch_none, faces_below}
use Rattle.trail_states.proofs.Parts.{leads_least, faces_least}
use Rattle.trail_states.proofs.next.TrailGuide.least.Goals as goal

pub least_listed-face-requires : goal.least_listed-face-requires
least_listed-face-requires c =
    let T = c.requires.2.tables in
    rw c.faces.ensures (λ i h. omega (arith, c.requires.1, faces_below T c.args.p c.requires.0 i h))

pub returns-then-ways : goal.returns-then-ways
returns-then-ways c =
    let T = c.requires.2.tables in
    let B = faces_least T c.args.p (rw c.faces.ensures at c.least_listed-face.ensures.is) in
    record { is = leads_least T c.args.p c.least-step.ensures.is B c.least_touched.ensures.is; below = c.least_touched.ensures.below }

pub returns : goal.returns
returns c =
    let T = c.requires.2.tables in
    let B = faces_least T c.args.p (rw c.faces.ensures at c.least_listed-face.ensures.is) in
    record {
      is = leads_least T c.args.p c.least-step.ensures.is B (least_kept (λ q t. absurd (touch_none T c.args.p c.if-ways.false q t.is)));
      below = c.least_listed-face.ensures.below c.least-step.ensures.below;
    }
