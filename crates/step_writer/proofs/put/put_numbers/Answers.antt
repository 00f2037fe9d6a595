-- As many numbers are laid as are passed.
use native.Mathlib.Omega.{arith}
use Rattle.step_writer.proofs.Written.{numbers_none, number_fits, number_laid, numbers_laid}
use Rattle.step_writer.proofs.put.put_numbers.Goals as goal

pub loop-v-init : goal.loop-v-init
loop-v-init c = numbers_none c.args.numbers.now _ _

pub put-end-requires : goal.put-end-requires
put-end-requires c =
    let l = c.loop-v in
    (omega (arith, c.from.type_inv), omega (arith, l.invariant.end, number_fits c.args.numbers.now l.v-index c.from.result c.loop-v-test.true c.from.ensures))

pub loop-v-preserved : goal.loop-v-preserved
loop-v-preserved c = number_laid c.args.numbers.now c.loop-v.v-index c.from.result c.loop-v-test.true c.from.ensures c.loop-v.invariant c.put-end.ensures

pub returns : goal.returns
returns c = numbers_laid c.args.numbers.now _ (omega arith) c.loop-v.invariant
