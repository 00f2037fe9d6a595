-- `op_margin::margin` meets its contract.
use Rattle.op_margin.proofs.Margins.{margin_refused, margin_done}
use Rattle.op_margin.proofs.margin.Goals as goal

pub returns-in_err-plan : goal.returns-in_err-plan
returns-in_err-plan c = margin_refused _ _ c.in_err-plan.field-0.0 c.from_residual.ensures.1 c.in_err-plan.ensures

pub returns : goal.returns
returns c = margin_done _ c.in_ok-plan.plan c.in_ok-plan.ensures _ c.state_count.ensures _ c.margin.ensures
