-- The refusals that all operations share, 1 to 8, and what a call goes on with.
use Rattle.std.specs.Prelude.{Bool, cond, List, ℕ, eqb, leb}
use Rattle.theory.specs.Lists.{every}
use Rattle.model.specs.declared.Model.{Model}
use Rattle.plan_reader.specs.Accept.{read_model}
use Rattle.graph.specs.States.{states}

-- the model that the bytes spell
abbrev pub model_of : List ℕ → Model
model_of bytes = (read_model bytes).model

-- 01's S
abbrev pub states_of : List ℕ → ℕ
states_of bytes = states (model_of bytes)

-- "8 .. a scratch slice is shorter than S", by the lengths of the slices
unfoldable pub enough : ℕ → List ℕ → Bool
enough s lent = every (leb s) lent

-- "A model is judged number by number, 1, 2, then range, low and high when high is read; then 6, 7, 8"; 0 where the call goes on
unfoldable pub refusal : List ℕ → List ℕ → ℕ
refusal bytes lent = cond (eqb (read_model bytes).refusal 0) (cond (enough (states_of bytes) lent) 0 8) (read_model bytes).refusal
