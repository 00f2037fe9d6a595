-- `drift_c::drift_harm` meets its contract.
use mathlib.Core.Path.{ap, ◌∙◌}
use lib.ListN.{length}
use Rattle.number.specs.Answer.{Answer}
use Rattle.c_words.specs.Words.{harm_word, harm_out}
use Rattle.drift_c.proofs.Fields.{harm_states}
use Rattle.drift_c.proofs.drift_harm.Goals as goal

pub put_harm-requires : goal.put_harm-requires
put_harm-requires c = rw c.harm-answer.ensures.result_value (harm_states _ _)

pub returns : goal.returns
returns c =
    let out = c.args.out.now in
    let told = c.harm-answer.ensures in
    let put = c.put_harm.ensures in
    record {
      value = put.value ∙ ap (λ (a : Answer). harm_word a (length out)) told.result_value;
      out_after = put.out_after ∙ ap (λ (a : Answer). harm_out a out) told.result_value;
      scratch_left = told.scratch_left;
    }
