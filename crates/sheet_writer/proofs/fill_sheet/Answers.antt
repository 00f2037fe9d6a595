-- `sheet_writer::fill_sheet` meets its contract.
use mathlib.Core.Path.{◌∙◌}
use Rattle.sheet_writer.proofs.Numbers.{height_fits, all_stored}
use Rattle.sheet_writer.proofs.fill_sheet.Goals as goal

pub state_number-requires : goal.state_number-requires
state_number-requires c = height_fits c.args.touch c.requires.0 c.requires.1 c.loop-p.p c.loop-p-test.true

pub returns : goal.returns
returns c =
    let loop = c.loop-p in
    all_stored c.args.touch c.requires.0 c.requires.1 loop.sheet loop.p (loop.auto.sheet ∙ c.requires.2) c.loop-p-test.false loop.invariant
