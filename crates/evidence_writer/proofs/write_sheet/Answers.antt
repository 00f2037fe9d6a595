-- `evidence_writer::write_sheet` meets its contract.
use native.Mathlib.Omega.{arith}
use mathlib.Core.Path.{ap}
use lib.ListN.{length}
use Rattle.spelling.proofs.Lays.{none_lent}
use Rattle.evidence_writer.proofs.Output.{sheet_is, measured, laid_in, left_out}
use Rattle.evidence_writer.proofs.write_sheet.Goals as goal

pub returns-then-need-out : goal.returns-then-need-out
returns-then-need-out c =
    let m = c.args.plan.now.model in
    let touch = c.args.touch in
    let is = sheet_is touch m c.requires.1 in
    let measure = c.put_sheet-need.ensures in
    let kept = none_lent c.put_sheet-need.new.out c.args.out.now measure.long in
    (measured touch m is measure, laid_in touch m is kept c.put_sheet.ensures (omega (arith, c.if-need-out.true, measured touch m is measure, measured touch m is c.put_sheet.ensures, ap length kept)))

pub returns-else-need-out : goal.returns-else-need-out
returns-else-need-out c =
    let m = c.args.plan.now.model in
    let touch = c.args.touch in
    let is = sheet_is touch m c.requires.1 in
    let measure = c.put_sheet-need.ensures in
    let kept = none_lent c.put_sheet-need.new.out c.args.out.now measure.long in
    (measured touch m is measure, left_out touch m kept (measured touch m is measure) (omega (arith, c.if-need-out.false, ap length kept)))
