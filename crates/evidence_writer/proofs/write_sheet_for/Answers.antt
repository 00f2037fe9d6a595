-- `evidence_writer::write_sheet_for` meets its contract.
use Rattle.evidence_writer.proofs.Sheet.{sheet_added, sheet_found}
use Rattle.evidence_writer.proofs.write_sheet_for.Goals as goal

pub write_sheet-requires : goal.write_sheet-requires
write_sheet-requires c =
    let ok = c.args.plan.now.lawful in
    (sheet_found ok c.args.touch c.if-touch.true c.requires.surveyed.0, c.requires.m_value)

pub add_heights-requires : goal.add_heights-requires
add_heights-requires c = record { lawful = c.requires.lawful; scratch = c.requires.surveyed.1 }

pub write_sheet-requires-2 : goal.write_sheet-requires-2
write_sheet-requires-2 c =
    let ok = c.args.plan.now.lawful in
    (sheet_added ok c.args.touch c.requires.surveyed.0.distances c.add_heights.ensures, c.requires.m_value)
