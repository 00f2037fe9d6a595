-- 01: "A model is accepted when it is refused neither for its bytes (here 1 to 6) nor for a walk (7)."
use Rattle.std.specs.Prelude.{ℕ, ◌≡◌, List, cond, eqb}
use Rattle.parser.specs.Parse.{Reading}
use Rattle.limits.specs.Limits.{KnownMark}
use Rattle.parser.specs.Parse.{refused, parse_model}
use Rattle.model.specs.Model.{Lawful, Tidy}
use Rattle.edge_walks.specs.Cycle.{LeavesUnreset, unreset}

-- "a model with a closed walk of edges that leaves some clock unreset is refused", and only after its bytes
abbrev pub judged : Reading → Reading
judged r = cond (eqb r.refusal 0) (cond (unreset r.model) (refused 7) r) r

unfoldable pub read_model : List ℕ → Reading
read_model bs = judged (parse_model bs)

-- what an accepted reading keeps
pub record Whole (r : Reading) : Type 0 where
  pub done : r.refusal ≡ 0
  pub marked : KnownMark r.mark
  pub lawful : Lawful r.model
  pub tidy : Tidy r.model
  pub resets : LeavesUnreset r.model → ⊥
