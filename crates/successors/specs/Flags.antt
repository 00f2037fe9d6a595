-- A flag for each state of a model: 1 where it is allowed, 0 elsewhere.
use Rattle.std.specs.Prelude.{ℕ, ◌+◌, ◌<◌, ◌≡◌, List, length, get_or}
use Rattle.theory.specs.Below.{bit}
use Rattle.theory.specs.Region.{fits}
use Rattle.theory.specs.StateGraph.{allowed_state}
use Rattle.limits.specs.Limits.{max_clocks}
use Rattle.region.specs.View.{view}
use Rattle.region.specs.Packed.{packed_bound, unpack}
use Rattle.model.specs.declared.Model.{Model}
use Rattle.graph.specs.Plan.{automaton_of}
use Rattle.graph.specs.States.{states}

-- the entries of a table are packed regions
abbrev pub PackedAll : List ℕ → Type 0
PackedAll table = (i : ℕ) → i < length table → get_or table i 0 < packed_bound

-- the flags from `base` on are those of the first n regions of a table: whether they are within the limits; the flags before are kept
pub record Flagged (table limits : List ℕ) (base n : ℕ) (flags flags' : List ℕ) : Type 0 where
  pub long : length flags' ≡ length flags
  pub kept : (p : ℕ) → p < base → get_or flags' p 0 ≡ get_or flags p 0
  pub is : (i : ℕ) → i < n → get_or flags' (base + i) 0 ≡ bit (fits (view max_clocks (unpack (get_or table i 0))) limits)

-- the flags of the states below n are right
pub record FlagsBelow (m : Model) (n : ℕ) (allowed : List ℕ) : Type 0 where
  pub long : length allowed ≡ states m
  pub is : (p : ℕ) → p < n → get_or allowed p 0 ≡ bit (allowed_state (automaton_of m) m.locations p)

abbrev pub AllowedFlags : Model → List ℕ → Type 0
AllowedFlags m = FlagsBelow m (states m)
