-- `op_marks::put_marks` meets its contract.
use lib.Dec.{ltb}
use native.Mathlib.Omega.{arith}
use mathlib.Core.Path.{refl, sym, ◌∙◌}
use lib.ListN.{get_or, length-set}
use Rattle.theory.specs.Below.{bit}
use Rattle.theory.proofs.Below.{stored_next}
use Rattle.theory.specs.WithoutTouch.{with_touch}
use Rattle.theory.proofs.WithoutTouch.{touch_laws}
use Rattle.graph.specs.Plan.{system_of_model}
use Rattle.graph.proofs.Models.{system_laws}
use Rattle.op_marks.proofs.Marked.{touch_size, byte_bit, marks_written}
use Rattle.op_marks.proofs.put_marks.Goals as goal

pub loop-p-init : goal.loop-p-init
loop-p-init c = (refl, λ k b. absurd (omega arith))

pub bounds-out-p : goal.bounds-out-p
bounds-out-p c = omega (arith, c.loop-p.invariant.0, c.requires.1, c.requires.0.long, touch_size c.args.touch c.args.plan.now.model)

pub loop-p-preserved : goal.loop-p-preserved
loop-p-preserved c =
    let l = c.loop-p in (
      simp length-set l.invariant.0,
      stored_next (λ k. bit (ltb 0 (get_or c.args.distances.now k 0))) l.out l.p c.from.result (omega (arith, l.invariant.0, c.requires.1, c.requires.0.long, touch_size c.args.touch c.args.plan.now.model)) (c.from.ensures ∙ byte_bit _) l.invariant.1,
    )

pub returns : goal.returns
returns c =
    let l = c.loop-p in
    let touch = c.args.touch in
    let plan = c.args.plan.now in
    let m = plan.model in
    marks_written (with_touch touch (system_of_model m)) (touch_laws touch (system_of_model m) (system_laws m plan.lawful)) l.out c.args.distances.now c.requires.0
    (l.invariant.0 ∙ c.requires.1 ∙ sym (touch_size touch m)) (λ p b. l.invariant.1 p (omega (arith, c.requires.0.long)))
