-- 02 (g): "A quicker judge shall take just those plans in which each closed walk of edges, counted as under (f), has an edge resetting every clock."
use Rattle.std.specs.Prelude.{List, ℕ}
use Rattle.theory.specs.WithoutTouch.{without_touch}
use Rattle.graph.specs.Plan.{system_of_model}
use Rattle.number.specs.Answer.{Answer, answer}
use Rattle.call.specs.Call.{model_of}
use Rattle.call.specs.Joint.{joint_refusal}
use Rattle.op_judge.specs.Judge.{verdict}

-- what it says of these bytes with scratch of these lengths: 01's answer, of time, jump and face steps alone
unfoldable pub joint_judged : List ℕ → List ℕ → Answer
joint_judged bytes lent = answer (joint_refusal bytes lent) (verdict (without_touch (system_of_model (model_of bytes))))
