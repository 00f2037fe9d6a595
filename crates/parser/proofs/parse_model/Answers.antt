-- What is read is lawful.
use native.Mathlib.Omega.{arith}
use mathlib.Core.Path.{◌≡◌}
use Rattle.std.proofs.lemmas.Grind.{common_steps}
use Rattle.parser.specs.Parse.{Reading, parse_model}
use Rattle.parser.proofs.Bodies.{read_lawful}
use Rattle.parser.proofs.parse_model.Goals as goal

pub invariant_of-result : goal.invariant_of-result
unfolding parse_model
invariant_of-result c =
    let e : ◌≡◌ {A = Reading} (record { refusal = 0; mark = c.in_ok-mark.mark; model = c.in_ok-model.model }) (parse_model c.args.bytes.now) = grind (arith, common_steps) in
    record { lawful = read_lawful _ _ _ e }
