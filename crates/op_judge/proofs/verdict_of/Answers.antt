-- `op_judge::verdict_of` meets its contract.
use native.Mathlib.Omega.{arith}
use mathlib.Core.Path.{◌∙◌}
use lib.ListN.{length}
use Rattle.theory.specs.WithoutTouch.{with_touch}
use Rattle.theory.proofs.WithoutTouch.{touch_laws}
use Rattle.graph.specs.Plan.{system_of_model}
use Rattle.graph.proofs.Models.{system_laws}
use Rattle.survey.proofs.Forbidden.{kinds, forbids_by}
use Rattle.op_judge.proofs.Judged.{answer_unsafe, answer_safe}
use Rattle.op_judge.proofs.verdict_of.Goals as goal

pub fewest-requires : goal.fewest-requires
fewest-requires c =
    let plan = c.args.plan.now in
    kinds plan.model plan.lawful c.args.touch c.args.distances.now c.from.result c.requires (c.from.ensures ∙ c.count-regions.ensures)

pub returns-in-Some : goal.returns-in-Some
returns-in-Some c =
    let plan = c.args.plan.now in
    let m = plan.model in
    let Y = with_touch c.args.touch (system_of_model m) in
    let laws = touch_laws c.args.touch (system_of_model m) (system_laws m plan.lawful) in
    let forbids = forbids_by m plan.lawful c.args.touch c.from.result (c.from.ensures ∙ c.count-regions.ensures) in
    let found = c.in-Some.ensures in
    answer_unsafe Y laws (length c.args.distances.now) c.in-Some.steps c.requires.long (found.value Y laws c.requires forbids)
    (found.below Y laws c.requires forbids)

pub returns-in-None : goal.returns-in-None
returns-in-None c =
    let plan = c.args.plan.now in
    let m = plan.model in
    let Y = with_touch c.args.touch (system_of_model m) in
    let laws = touch_laws c.args.touch (system_of_model m) (system_laws m plan.lawful) in
    let forbids = forbids_by m plan.lawful c.args.touch c.from.result (c.from.ensures ∙ c.count-regions.ensures) in
    answer_safe Y laws (length c.args.distances.now) c.count_marked.result (length c.args.distances.now) c.requires.long
    (c.in-None.ensures.value Y laws c.requires forbids)
    (omega arith)
    (c.count_marked.ensures Y laws c.requires)
