-- One more number is read.
use native.Mathlib.Omega.{arith}
use mathlib.Core.Path.{sym, ap, ◌∙◌}
use Rattle.std.proofs.Common.{◌<◌, length}
use lib.ListN.{length-set}
use Rattle.number.specs.Number.{numbered}
use Rattle.sheet_numbers.proofs.Reading.{numbers_more}
use Rattle.sheet_numbers.proofs.read_numbers.Goals as goal

pub loop-i-preserved : goal.loop-i-preserved
loop-i-preserved c =
    let loop = c.loop-i in
    let below : loop.i < length loop.sheet = omega (arith, c.loop-i-test.true, loop.invariant.long) in
    record {
      long = simp length-set loop.invariant.long;
      numbers =
          sym (numbers_more _ _ _ _ _ _ _ _ (omega (arith, below, loop.invariant.long)) (sym c.read-got.ensures ∙ ap numbered c.in-Value.is) _ below
          (sym c.number_keeps.ensures ∙ c.if-not-number_keeps.false))
          ∙ loop.invariant.numbers;
    }
