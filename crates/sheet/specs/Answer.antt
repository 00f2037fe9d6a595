-- What a sheet's bytes are answered by: 0 where they spell a sheet that keeps the rules, or else the refusal.
use Rattle.std.specs.Prelude.{◌≡◌, cond, List, ℕ, ◌-◌, ◌*◌, length, ltb}
use Rattle.theory.specs.System.{System}
use Rattle.theory.specs.Sheet.{in_of, height_of, keeps}
use Rattle.model.specs.declared.Model.{Model}
use Rattle.graph.specs.Plan.{system_of_model}
use Rattle.graph.specs.States.{states}
use Rattle.successors.specs.Flags.{AllowedFlags}
use Rattle.evidence_number.specs.Numbers.{Numbers, on_numbers}
use Rattle.sheet_numbers.specs.Numbers.{numbers_from}
use Rattle.sheet_rules.specs.Tables.{RuleTables}

-- "S numbers in state order", "all at most 2S-1", from an offset on
abbrev pub sheet_numbers : System → List ℕ → ℕ → Numbers
sheet_numbers Y bs at = numbers_from Y.allowed (2 * Y.size - 1) bs Y.size 0 at

-- 01: "sheet numbers in order by 1, 2, 11, then 6, 12"; they begin at an offset, after the first number, which is 1
unfoldable pub sheet_refusal : System → List ℕ → ℕ → ℕ
sheet_refusal Y bs at =
    on_numbers (sheet_numbers Y bs at)
    (λ l end. cond (ltb end (length bs)) 6 (cond (keeps Y (in_of l) (height_of l)) 0 12))
    (λ r. r)

abbrev pub sheet_answer : Model → List ℕ → ℕ → ℕ
sheet_answer m = sheet_refusal (system_of_model m)

-- what the check is lent: a flag for each state, 1 where it is allowed, the arrays of the rules, and a place for the number of each state
pub record Lent (m : Model) (allowed first targets shapes sheet : List ℕ) : Type 0 where
  pub flags : AllowedFlags m allowed
  pub filled : RuleTables m first targets shapes
  pub long : length sheet ≡ states m
