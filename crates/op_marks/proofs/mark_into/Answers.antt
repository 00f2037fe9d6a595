-- `op_marks::mark_into` meets its contract.
use native.Mathlib.Omega.{arith}
use Rattle.op_marks.proofs.Marked.{answer_short, answer_marked, short_kept, marked_in}
use Rattle.op_marks.proofs.mark_into.Goals as goal

pub returns-then-out-many-clause-result_value : goal.returns-then-out-many-clause-result_value
returns-then-out-many-clause-result_value c = answer_short c.args.plan.now.model _ (omega (arith, c.requires.first))

pub returns-then-out-many-clause-out_after : goal.returns-then-out-many-clause-out_after
returns-then-out-many-clause-out_after c = short_kept c.args.touch c.args.plan.now.model _ (omega (arith, c.requires.first))

pub returns-clause-result_value : goal.returns-clause-result_value
returns-clause-result_value c = answer_marked c.args.plan.now.model _ _ c.requires.first (omega arith)

pub returns-clause-out_after : goal.returns-clause-out_after
returns-clause-out_after c =
    marked_in c.args.touch c.args.plan.now.model _ _ _ c.requires.first (omega arith) c.put_marks.ensures
