-- `evidence_writer::write_trail_for` meets its contract.
use native.Mathlib.Omega.{arith}
use mathlib.Core.Path.{sym, ◌∙◌}
use lib.Seq.{length-take-le}
use Rattle.graph.specs.Plan.{system_of_model}
use Rattle.theory.specs.WithoutTouch.{with_touch}
use Rattle.survey.proofs.Tables.{start_product}
use Rattle.evidence_writer.proofs.Verdict.{distance_long, unsafe_by, trail_asked, trail_told}
use Rattle.evidence_writer.proofs.write_trail_for.Goals as goal

pub overflow_mul-start : goal.overflow_mul-start
overflow_mul-start c = rw c.from.ensures (omega (arith, start_product c.args.space.now.plan.now.model c.requires.searched.lawful c.args.r c.requires.r_value.0))

pub trail_states-requires : goal.trail_states-requires
trail_states-requires c =
    let K = c.requires.searched in
    rw c.from.ensures (trail_asked K c.args.r c.requires.r_value.0 c.args.steps c.requires.r_value.2)

pub slice_bounds-write_trail-end : goal.slice_bounds-write_trail-end
slice_bounds-write_trail-end c =
    let K = c.requires.searched in
    omega (arith, c.trail_states.auto.path, K.path_long, c.requires.r_value.2, distance_long K.levelled.surveyed)

pub slice_bounds-write_trail-end-2 : goal.slice_bounds-write_trail-end-2
slice_bounds-write_trail-end-2 c =
    let K = c.requires.searched in
    sym (length-take-le _ _ (omega (arith, c.trail_states.auto.path, K.path_long, c.requires.r_value.2, distance_long K.levelled.surveyed)))

pub write_trail-requires : goal.write_trail-requires
write_trail-requires c =
    let K = c.requires.searched in
    let e = c.requires.r_value.0 in
    let s = c.requires.r_value.1 in
    let states = c.trail_states in (
      record {
        lawful = K.lawful;
        listed = K.listed;
        flow = K.flow;
        level_long = K.levelled.surveyed.heights.long;
        queue_long = states.auto.distance ∙ distance_long K.levelled.surveyed;
        walk_long = K.queue_long;
      },
      unsafe_by K c.args.steps s c.requires.r_value.2,
      states.ensures.1 (with_touch c.args.touch (system_of_model c.args.space.now.plan.now.model)) (rw c.from.ensures (trail_told K c.args.r e c.args.steps s)),
    )
