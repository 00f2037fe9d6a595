-- The time and jump steps of a model in lists: what they are filled from, what is put for a state, and what the lists hold.
use Rattle.std.specs.Prelude.{ℕ, ◌+◌, ◌*◌, ◌≤◌, ◌<◌, ◌≡◌, true, List, [], length, get_or, eqb, ltb}
use Rattle.theory.specs.Below.{count}
use Rattle.theory.specs.Lists.{keep, from}
use Rattle.theory.specs.Region.{regions}
use Rattle.theory.specs.StateGraph.{region_count, allowed_state}
use Rattle.theory.specs.Adjacency.{Holds}
use Rattle.region.specs.View.{view, Known}
use Rattle.region.specs.declared.Region.{Region}
use Rattle.region_steps.specs.Tables.{Indexed, Laters}
use Rattle.model.specs.declared.Model.{Model}
use Rattle.model.specs.Model.{Lawful, source_of}
use Rattle.graph.specs.Plan.{automaton_of, system_of_model}
use Rattle.graph.specs.States.{Listed, states}
use Rattle.successors.specs.Flags.{AllowedFlags}

-- the number of regions
abbrev pub regions_in : Model → ℕ
regions_in m = region_count (automaton_of m)

-- "states are numbered by location, then region": the number of region i of location l
abbrev pub state_of : Model → ℕ → ℕ → ℕ
state_of m l i = l * regions_in m + i

-- ---- what the lists are filled from: the regions of a model, their time successors by number, the number at each code, and its
-- allowed states

pub record Given (m : Model) (table later index allowed : List ℕ) : Type 0 where
  pub lawful : Lawful m
  pub listed : Listed m table
  pub laters : Laters m.clocks m.ceiling later
  pub indexed : Indexed m.clocks m.ceiling index
  pub flags : AllowedFlags m allowed

-- ---- what is put for a state

-- the edges that leave a location
unfoldable pub leaving : Model → ℕ → List ℕ
leaving m l = keep (λ e. eqb (source_of m e) l) (from 0 m.edges)

pub record LeavingEdges (m : Model) (l : ℕ) (edges : List ℕ) : Type 0 where
  pub location : l < m.locations
  pub are : edges ≡ leaving m l

-- g is region i, and it is allowed in location l
pub record AllowedAt (m : Model) (l i : ℕ) (g : Region) : Type 0 where
  pub location : l < m.locations
  pub region : i < regions_in m
  pub known : Known m.clocks m.ceiling g
  pub is : view m.clocks g ≡ get_or (regions m.clocks m.ceiling) i []
  pub allowed : allowed_state (automaton_of m) m.locations (state_of m l i) ≡ true

-- x is q, whose flag is set
abbrev pub IfFlagged : List ℕ → ℕ → ℕ → Type 0
IfFlagged allowed q x = (x ≡ q) × (get_or allowed q 0 ≡ 1)

-- region i has a time successor, and x is the state with it, whose flag is set; the states of the location begin at `base`
abbrev pub TimeTo : List ℕ → List ℕ → ℕ → ℕ → ℕ → Type 0
TimeTo later allowed base i x = (get_or later i 0 < length later) × IfFlagged allowed (base + get_or later i 0) x

-- room for the rows of the locations below l: a time step from each state, and along each edge that leaves them a jump from each region
unfoldable pub room : Model → ℕ → ℕ
room m l = (l + count m.edges (λ e. ltb (source_of m e) l)) * regions_in m

-- ---- what the lists hold: the time and jump steps of all states, at most one of time for each state and one for each edge and region

pub record FlowLists (m : Model) (first targets : List ℕ) : Type 0 where
  pub holds : Holds first targets (states m) (system_of_model m).flow
  pub few : get_or first (states m) 0 ≤ states m + m.edges * regions_in m
