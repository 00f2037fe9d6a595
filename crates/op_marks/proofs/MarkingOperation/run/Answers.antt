-- The marks past number 8.
use native.Mathlib.Omega.{arith}
use mathlib.Core.Path.{sym, ◌∙◌}
use lib.ListN.{length}
use lib.Seq.{length-take-le}
use Rattle.op_marks.proofs.Marked.{refused_at, refused_alone, short_told, short_alone, marks_told, marks_put}
use Rattle.op_marks.proofs.MarkingOperation.run.Goals as goal

pub returns-in_err-check_joint-clause-value : goal.returns-in_err-check_joint-clause-value
returns-in_err-check_joint-clause-value c =
    refused_at _ c.args.plan.now.model _ _ c.in_err-check_joint.field-0.0 c.from_residual.ensures.1 c.in_err-check_joint.ensures

pub returns-in_err-check_joint-clause-out_after : goal.returns-in_err-check_joint-clause-out_after
returns-in_err-check_joint-clause-out_after c =
    refused_alone _ c.args.plan.now.model _ c.in_err-check_joint.field-0.0 c.in_err-check_joint.ensures

pub returns-then-out-states-clause-value : goal.returns-then-out-states-clause-value
returns-then-out-states-clause-value c = short_told _ c.args.plan.now.model c.in_ok-check_joint.ensures _ (omega (arith, c.requires.first))

pub returns-then-out-states-clause-out_after : goal.returns-then-out-states-clause-out_after
returns-then-out-states-clause-out_after c =
    short_alone _ c.args.plan.now.model c.in_ok-check_joint.ensures _ (omega (arith, c.requires.first))

pub returns-clause-value : goal.returns-clause-value
returns-clause-value c =
    marks_told _ c.args.plan.now.model c.in_ok-check_joint.ensures _ _ c.requires.first (omega arith)

pub returns-clause-out_after : goal.returns-clause-out_after
returns-clause-out_after c =
    marks_put _ c.args.plan.now.model c.in_ok-check_joint.ensures _ _ _ c.requires.first (omega arith) c.put_marks.ensures
