-- `evidence_writer::write_found` meets its contract.
use native.Mathlib.Omega.{arith}
use Prim.Native.Nat.{◌≤◌}
use mathlib.Core.Path.{◌∙◌}
use mathlib.Core.Bool.{true, false}
use lib.ListN.{length}
use Rattle.std.specs.Prelude.{unwrap_or}
use Rattle.graph.proofs.States.{clocks_of, ceiling_of}
use Rattle.survey.proofs.Forbidden.{kinds}
use Rattle.evidence_writer.proofs.Verdict.{scratch_of, steps_by, few_by, unsafe_by, safe_by}
use Rattle.evidence_writer.proofs.Output.{written_as}
use Rattle.evidence_writer.proofs.write_found.Goals as goal

pub count-requires : goal.count-requires
count-requires c = (clocks_of c.args.space.now.plan.now.model c.requires.0.lawful, ceiling_of c.args.space.now.plan.now.model c.requires.0.lawful)

pub fewest-requires : goal.fewest-requires
fewest-requires c =
    let K = c.requires.0 in
    let e = c.from-r.ensures ∙ c.count.ensures in
    kinds c.args.space.now.plan.now.model K.lawful c.args.touch c.args.distance.now _ K.levelled.surveyed.distances e

pub write_trail_for-need-requires : goal.write_trail_for-need-requires
write_trail_for-need-requires c =
    let K = c.requires.0 in
    let e = c.from-r.ensures ∙ c.count.ensures in
    let found = c.in-Some in
    record { searched = K; r_value = (e, steps_by K _ e found.steps found.ensures.value, few_by K _ e found.steps found.ensures.below) }

pub returns-in-Some : goal.returns-in-Some
returns-in-Some c =
    let K = c.requires.0 in
    let e = c.from-r.ensures ∙ c.count.ensures in
    let found = c.in-Some in
    let wrote = c.write_trail_for-need.ensures in
    let bad = unsafe_by K found.steps (steps_by K _ e found.steps found.ensures.value) (few_by K _ e found.steps found.ensures.below) in
    (c.verdict_with.ensures ∙ written_as c.args.touch c.args.space.now.plan.now.model true _ _ bad wrote.0, wrote.1)

pub write_sheet_for-need-requires : goal.write_sheet_for-need-requires
write_sheet_for-need-requires c =
    let K = c.requires.0 in
    let e = c.from-r.ensures ∙ c.count.ensures in
    let steps = unwrap_or c.fewest.result (length c.args.distance.now) in
    let far : length c.args.distance.now ≤ steps = rw c.in_default.is (omega arith) in
    record {
      lawful = (K.flow, c.requires.1);
      surveyed = (K.levelled.surveyed, scratch_of K);
      m_value = safe_by K steps (steps_by K _ e steps c.fewest.ensures.value) far;
    }

pub returns : goal.returns
returns c =
    let K = c.requires.0 in
    let e = c.from-r.ensures ∙ c.count.ensures in
    let steps = unwrap_or c.fewest.result (length c.args.distance.now) in
    let far : length c.args.distance.now ≤ steps = rw c.in_default.is (omega arith) in
    let wrote = c.write_sheet_for-need.ensures in (
      c.verdict_with-2.ensures ∙ written_as c.args.touch c.args.space.now.plan.now.model false _ _ (safe_by K steps (steps_by K _ e steps c.fewest.ensures.value) far) wrote.0,
      wrote.1,
    )
