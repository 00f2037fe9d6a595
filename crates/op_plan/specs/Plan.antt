-- The plan writer. 02: "A writer shall take any accepted model and put it out in shortest numbers"; "Output too short is 9, after the model's own refusals."
use Rattle.std.specs.Prelude.{List, ℕ}
use Rattle.number.specs.Answer.{Answer}
use Rattle.spelling.specs.Calls.{bytes_answer, bytes_output}
use Rattle.plan_reader.specs.Accept.{read_model}
use Rattle.canonical.specs.Canonical.{shortest_plan}

-- what it says of these bytes with an output of so many bytes: 1 to 7, then 9, or the number of bytes
unfoldable pub plan_answer : List ℕ → ℕ → Answer
plan_answer bytes room = bytes_answer (read_model bytes).refusal (shortest_plan (read_model bytes)) room

-- what it leaves in the output
unfoldable pub plan_output : List ℕ → List ℕ → List ℕ
plan_output bytes out = bytes_output (read_model bytes).refusal (shortest_plan (read_model bytes)) out
