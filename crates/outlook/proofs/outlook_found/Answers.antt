-- `outlook::outlook_found` meets its contract.
use native.Mathlib.Omega.{arith}
use Prim.Native.Nat.{◌≤◌}
use lib.ListN.{length}
use Rattle.std.specs.Prelude.{unwrap_or}
use mathlib.Core.Path.{refl, sym, ap, ◌∙◌}
use mathlib.Core.Bool.{true}
use lib.Seq.{length-take-le}
use Rattle.theory.specs.Trail.{trail_states}
use Rattle.theory.specs.WithoutTouch.{with_touch}
use Rattle.theory.proofs.WithoutTouch.{with_touch_lem}
use Rattle.graph.specs.Plan.{system_of_model}
use Rattle.graph.proofs.States.{clocks_of, ceiling_of}
use Rattle.survey.proofs.Tables.{start_product}
use Rattle.survey.proofs.Forbidden.{kinds}
use Rattle.evidence_writer.proofs.Verdict.{distance_long, steps_by, few_by, trail_asked, trail_told}
use Rattle.outlook.proofs.Found.{found_unsafe, found_safe, unsafe_found, delay_found, safe_found, bound_found}
use Rattle.outlook.proofs.outlook_found.Goals as goal

pub count-requires : goal.count-requires
count-requires c = (clocks_of c.args.space.now.plan.now.model c.requires.0.lawful, ceiling_of c.args.space.now.plan.now.model c.requires.0.lawful)

pub fewest-requires : goal.fewest-requires
fewest-requires c =
    let K = c.requires.0 in
    let e = c.from-r.ensures ∙ c.count.ensures in
    kinds c.args.space.now.plan.now.model K.lawful true c.args.distance.now _ K.levelled.surveyed.distances e

pub returns-then-not-harm : goal.returns-then-not-harm
returns-then-not-harm c =
    let K = c.requires.0 in
    let e = c.from-r.ensures ∙ c.count.ensures in
    let found = c.in-Some in
    unsafe_found c.args.space.now.plan.now.model _ c.if-not-harm.true (found_unsafe K _ e found.steps found.ensures.value (few_by K _ e found.steps found.ensures.below))

pub overflow_mul-start : goal.overflow_mul-start
overflow_mul-start c =
    let e = c.from-r.ensures ∙ c.count.ensures in
    rw c.from.ensures (omega (arith, start_product c.args.space.now.plan.now.model c.requires.0.lawful c.from-r.result e))

pub trail_states-requires : goal.trail_states-requires
trail_states-requires c =
    let K = c.requires.0 in
    let e = c.from-r.ensures ∙ c.count.ensures in
    let found = c.in-Some in
    rw c.from.ensures (trail_asked K _ e found.steps (few_by K _ e found.steps found.ensures.below))

pub slice_bounds-trail_delay-end : goal.slice_bounds-trail_delay-end
slice_bounds-trail_delay-end c =
    let K = c.requires.0 in
    let e = c.from-r.ensures ∙ c.count.ensures in
    omega (arith, c.trail_states.auto.path, K.path_long, few_by K _ e c.in-Some.steps c.in-Some.ensures.below, distance_long K.levelled.surveyed)

pub slice_bounds-trail_delay-end-in-Some : goal.slice_bounds-trail_delay-end-in-Some
slice_bounds-trail_delay-end-in-Some c =
    let K = c.requires.0 in
    let e = c.from-r.ensures ∙ c.count.ensures in
    sym (length-take-le _ _
    (omega (arith, c.trail_states.auto.path, K.path_long, few_by K _ e c.in-Some.steps c.in-Some.ensures.below, distance_long K.levelled.surveyed)))

pub trail_delay-delay-requires : goal.trail_delay-delay-requires
trail_delay-delay-requires c =
    let m = c.args.space.now.plan.now.model in
    let K = c.requires.0 in
    let e = c.from-r.ensures ∙ c.count.ensures in
    let found = c.in-Some in
    let states = c.trail_states in (
      record {
        lawful = K.lawful;
        listed = K.listed;
        flow = K.flow;
        level_long = K.levelled.surveyed.heights.long;
        queue_long = states.auto.distance ∙ distance_long K.levelled.surveyed;
        walk_long = K.queue_long;
      },
      found_unsafe K _ e found.steps found.ensures.value (few_by K _ e found.steps found.ensures.below),
      states.ensures.1 (with_touch true (system_of_model m)) (rw c.from.ensures (trail_told K _ e found.steps (steps_by K _ e found.steps found.ensures.value)))
          ∙ ap trail_states (with_touch_lem (system_of_model m)),
    )

pub returns-in-Some : goal.returns-in-Some
returns-in-Some c =
    let K = c.requires.0 in
    let e = c.from-r.ensures ∙ c.count.ensures in
    let found = c.in-Some in
    delay_found c.args.space.now.plan.now.model _ c.if-not-harm.false
    (found_unsafe K _ e found.steps found.ensures.value (few_by K _ e found.steps found.ensures.below)) _ c.trail_delay-delay.ensures

pub returns-then-harm : goal.returns-then-harm
returns-then-harm c =
    let K = c.requires.0 in
    let e = c.from-r.ensures ∙ c.count.ensures in
    let steps = unwrap_or c.fewest.result (length c.args.distance.now) in
    let far : length c.args.distance.now ≤ steps = rw c.in_default.is (omega arith) in
    safe_found c.args.space.now.plan.now.model _ c.if-harm.true (found_safe K _ e steps c.fewest.ensures.value far)

pub margin_of-requires : goal.margin_of-requires
margin_of-requires c =
    let K = c.requires.0 in
    let e = c.from-r.ensures ∙ c.count.ensures in
    let steps = unwrap_or c.fewest.result (length c.args.distance.now) in
    let far : length c.args.distance.now ≤ steps = rw c.in_default.is (omega arith) in
    record {
      lawful = (record { flags = c.requires.1; flow = K.flow }, K.by_region.linked refl);
      surveyed = (K.levelled.surveyed, K.queue_long, K.path_long);
      m_value = found_safe K _ e steps c.fewest.ensures.value far;
    }

pub returns : goal.returns
returns c =
    let K = c.requires.0 in
    let e = c.from-r.ensures ∙ c.count.ensures in
    let steps = unwrap_or c.fewest.result (length c.args.distance.now) in
    let far : length c.args.distance.now ≤ steps = rw c.in_default.is (omega arith) in
    bound_found c.args.space.now.plan.now.model _ c.if-harm.false (found_safe K _ e steps c.fewest.ensures.value far) _ c.margin_of.ensures
