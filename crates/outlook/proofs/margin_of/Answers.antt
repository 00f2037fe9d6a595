-- `outlook::margin_of` meets its contract.
use native.Mathlib.Omega.{arith}
use mathlib.Core.Path.{refl, sym, ◌∙◌}
use mathlib.Core.Bool.{true}
use Rattle.successors.proofs.Room.{states_limit}
use Rattle.evidence_writer.proofs.Verdict.{distance_long}
use Rattle.evidence_writer.proofs.Sheet.{sheet_found}
use Rattle.outlook.proofs.Found.{sheet_as, our_blank, our_passes, margin_found}
use Rattle.outlook.proofs.margin_of.Goals as goal

pub fill_sheet-requires : goal.fill_sheet-requires
fill_sheet-requires c =
    let m = c.args.space.now.plan.now.model in
    let ok = c.args.space.now.plan.now.lawful in
    let K = c.requires.surveyed.0 in
    (ok, sheet_found ok true refl K, c.requires.surveyed.1 ∙ sym K.heights.long)

pub fill_fringe-requires : goal.fill_fringe-requires
fill_fringe-requires c =
    let m = c.args.space.now.plan.now.model in
    let ok = c.args.space.now.plan.now.lawful in
    let K = c.requires.surveyed.0 in
    record { lawful = ok; tables = c.requires.lawful.1.shapes; allowed = c.requires.lawful.0.flags; long = c.fill_sheet.auto.sheet ∙ c.requires.surveyed.1; blank = our_blank m ok c.requires.m_value _ (sheet_as m c.fill_sheet.ensures) }

pub fringe_entries-entries-requires : goal.fringe_entries-entries-requires
fringe_entries-entries-requires c =
    let m = c.args.space.now.plan.now.model in
    let ok = c.args.space.now.plan.now.lawful in
    let K = c.requires.surveyed.0 in
    (record { lawful = ok; listed = c.args.space.now.listed; flow = c.requires.lawful.0.flow; passes = our_passes m ok c.requires.m_value _ (sheet_as m c.fill_sheet.ensures); fringe = c.fill_fringe.ensures }, record { heads_long = K.heights.long; links_long = distance_long K; ranks_long = c.requires.surveyed.2 })

pub span_of-requires : goal.span_of-requires
span_of-requires c =
    let m = c.args.space.now.plan.now.model in
    let ok = c.args.space.now.plan.now.lawful in
    let K = c.requires.surveyed.0 in
    omega (arith, c.fringe_entries-entries.ensures.upper_bound, states_limit ok)

pub overflow_add-result : goal.overflow_add-result
overflow_add-result c =
    let m = c.args.space.now.plan.now.model in
    let ok = c.args.space.now.plan.now.lawful in
    let K = c.requires.surveyed.0 in
    omega (arith, c.span_of.ensures.1, c.from.ensures, ok.clocks)

pub returns : goal.returns
returns c =
    let m = c.args.space.now.plan.now.model in
    let ok = c.args.space.now.plan.now.lawful in
    let K = c.requires.surveyed.0 in
    margin_found m _ (sheet_as m c.fill_sheet.ensures) _ c.fringe_entries-entries.ensures.value _ _ c.span_of.ensures.0 c.from.ensures
