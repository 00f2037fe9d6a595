-- `sheet_writer::put_sheet` meets its contract.
use native.Mathlib.Omega.{arith}
use Rattle.number.proofs.Spelling.{spell_few}
use Rattle.sheet_writer.proofs.Numbers.{laid_none, laid_next, room_next, few_states, height_fits, all_laid}
use Rattle.sheet_writer.proofs.put_sheet.Goals as goal

pub put-end-requires : goal.put-end-requires
put-end-requires c = (omega arith, omega (arith, spell_few 1))

pub loop-p-init : goal.loop-p-init
loop-p-init c = laid_none _ _ _

pub state_number-requires : goal.state_number-requires
state_number-requires c = height_fits c.args.touch c.requires.0 c.requires.1 c.loop-p.p c.loop-p-test.true

pub put-end-requires-in-loop-p : goal.put-end-requires-in-loop-p
put-end-requires-in-loop-p c =
    let loop = c.loop-p in
    let few = few_states c.args.touch c.requires.0 c.requires.1 in
    (omega (arith, c.state_number.ensures.1), room_next _ _ c.put-end.ensures loop.invariant (omega arith))

pub loop-p-preserved : goal.loop-p-preserved
loop-p-preserved c = laid_next _ c.loop-p.invariant c.put-end-in-loop-p.ensures c.state_number.ensures.0

pub returns : goal.returns
returns c = all_laid c.args.touch c.requires.0 c.requires.1 c.put-end.ensures c.loop-p.invariant (omega arith)
