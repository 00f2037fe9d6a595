-- A flag for each state of a model: 1 where it is of the fringe of a sheet, 0 elsewhere. They take the place of the flags of allowed states.
use Rattle.std.specs.Prelude.{◌≡◌, false, ◌↔◌, List, ℕ, ◌+◌, ◌≤◌, ◌<◌, length, get_or}
use Rattle.theory.specs.Below.{bit}
use Rattle.theory.specs.Sheet.{in_of}
use Rattle.theory.specs.StateGraph.{allowed_state}
use Rattle.shapes.specs.Layout.{corners_in, ShapesRoom}
use Rattle.model.specs.declared.Model.{Model}
use Rattle.model.specs.Model.{Lawful}
use Rattle.graph.specs.Plan.{automaton_of, system_of_model}
use Rattle.graph.specs.States.{states}
use Rattle.successors.specs.Flags.{AllowedFlags}
use Rattle.region_corners.specs.Shapes.{Shapes}
use Rattle.sheet_rules.specs.Tables.{Slots}
use Rattle.sheet_rules.specs.Rules.{Blank, Touched}
use Rattle.robust.specs.Fringe.{fringe}

-- the states below n have the flags of the fringe, the others still those of allowed states
pub record FringeBelow (m : Model) (sheet : List ℕ) (n : ℕ) (flags : List ℕ) : Type 0 where
  pub long : length flags ≡ states m
  pub is : (p : ℕ) → p < n → get_or flags p 0 ≡ bit (fringe (system_of_model m) (in_of sheet) p)
  pub rest : (p : ℕ) → n ≤ p → p < states m → get_or flags p 0 ≡ bit (allowed_state (automaton_of m) m.locations p)

-- all of them
pub record FringeFlags (m : Model) (sheet flags : List ℕ) : Type 0 where
  pub long : length flags ≡ states m
  pub is : (p : ℕ) → p < states m → get_or flags p 0 ≡ bit (fringe (system_of_model m) (in_of sheet) p)

-- what is asked: the corners of the regions, the allowed states, and a sheet that is 0 at the others
pub record FringeAsked (m : Model) (shapes sheet flags : List ℕ) : Type 0 where
  pub lawful : Lawful m
  pub tables : Shapes m.clocks m.ceiling shapes
  pub allowed : AllowedFlags m flags
  pub long : length sheet ≡ states m
  pub blank : Blank (system_of_model m) sheet

-- ---- a location of R regions, whose states begin at `base`

-- the flag of region i, where `allowed` is 1 if its state is allowed
pub record StateFlag (sheet corner : List ℕ) (base R i allowed flag : ℕ) : Type 0 where
  pub small : flag ≤ 1
  pub is : (flag ≡ 1) ↔ ((allowed ≡ 1) × (in_of sheet (base + i) ≡ false) × Touched sheet corner base R i)

-- the first n regions have those flags, by the flags before; all others are kept
pub record LocationFlags (sheet corner : List ℕ) (base R n : ℕ) (flags flags' : List ℕ) : Type 0 where
  pub long : length flags' ≡ length flags
  pub is : (i : ℕ) → i < n → StateFlag sheet corner base R i (get_or flags (base + i) 0) (get_or flags' (base + i) 0)
  pub before : (p : ℕ) → p < base → get_or flags' p 0 ≡ get_or flags p 0
  pub after : (p : ℕ) → base + n ≤ p → get_or flags' p 0 ≡ get_or flags p 0

pub record LocationAsked (shapes sheet : List ℕ) (base R : ℕ) (flags : List ℕ) : Type 0 where
  pub room : base + R ≤ length sheet
  pub long : length flags ≡ length sheet
  pub tables : ShapesRoom R shapes
  pub slots : Slots R (corners_in R shapes)
