-- The writer past number 8.
use Rattle.op_write.proofs.Write.{refused_at, refused_alone, writing_told, writing_left}
use Rattle.op_write.proofs.WritingOperation.run.Goals as goal

pub returns-in_err-check_joint-clause-value : goal.returns-in_err-check_joint-clause-value
returns-in_err-check_joint-clause-value c =
    refused_at _ c.args.plan.now.model _ _ c.in_err-check_joint.field-0.0 c.from_residual.ensures.1 c.in_err-check_joint.ensures

pub returns-in_err-check_joint-clause-out_after : goal.returns-in_err-check_joint-clause-out_after
returns-in_err-check_joint-clause-out_after c =
    refused_alone _ c.args.plan.now.model _ c.in_err-check_joint.field-0.0 c.in_err-check_joint.ensures

pub returns-clause-value : goal.returns-clause-value
returns-clause-value c = writing_told _ c.args.plan.now.model _ c.in_ok-check_joint.ensures _ c.write.ensures.0

pub returns-clause-out_after : goal.returns-clause-out_after
returns-clause-out_after c = writing_left _ c.args.plan.now.model c.in_ok-check_joint.ensures _ _ c.write.ensures.1
