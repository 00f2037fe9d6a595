-- The judge past number 8.
use Rattle.op_judge.proofs.Judged.{judge_refused, judge_told}
use Rattle.op_judge.proofs.JudgingOperation.run.Goals as goal

pub returns-in_err-check_joint-clause-value : goal.returns-in_err-check_joint-clause-value
returns-in_err-check_joint-clause-value c =
    judge_refused _ c.args.plan.now.model _ c.in_err-check_joint.field-0.0 c.from_residual.ensures.1 c.in_err-check_joint.ensures

pub returns-clause-value : goal.returns-clause-value
returns-clause-value c = judge_told _ c.args.plan.now.model c.in_ok-check_joint.ensures _ c.verdict_of.ensures
