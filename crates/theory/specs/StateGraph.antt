-- The states of an automaton by their numbers, and the system that they form. The automaton has `locations` locations, 0 to locations - 1.
use mathlib.Core.List.{List, [], ◌∷◌, Memᴰ}
use Rattle.std.specs.Prelude.{Bool, true, false, cond, ◌&&◌, ℕ, zero, suc, ◌+◌, ◌*◌, ◌/◌, ◌%◌, ◌<◌, eqb, ltb, length, get_or}
use Rattle.theory.specs.Below.{any}
use Rattle.theory.specs.System.{System}
use Rattle.theory.specs.Labels.{LabelledSystem}
use Rattle.theory.specs.Automaton.{Automaton, Edge}
use Rattle.theory.specs.Region.{Region, regions, face, shares, successor}
use Rattle.theory.specs.RegionGraph.{after, origin, allowed, guard_holds}

-- the start and the targets of edges are locations
pub record Within (m : Automaton) (locations : ℕ) : Type 0 where
  pub start : m.start < locations
  pub targets : (g : Edge) → Memᴰ g m.edges → g.target < locations

-- ---- numbers of states: "states are numbered by location, then region"

abbrev pub regions_of : Automaton → List Region
regions_of m = regions m.clocks m.ceiling

-- 01's count
unfoldable pub region_count : Automaton → ℕ
region_count m = length (regions_of m)

-- "S is L times the count"
abbrev pub state_count : Automaton → ℕ → ℕ
state_count m locations = locations * region_count m

unfoldable pub location_of : Automaton → ℕ → ℕ
location_of m p = p / region_count m

unfoldable pub region_of : Automaton → ℕ → Region
region_of m p = get_or (regions_of m) (p % region_count m) []

unfoldable pub same_region : Region → Region → Bool
same_region [] [] = true
same_region [] (y ∷ ys) = false
same_region (x ∷ xs) [] = false
same_region (x ∷ xs) (y ∷ ys) = (eqb x.whole y.whole && eqb x.rank y.rank) && same_region xs ys

-- the first index at which a region stands, the length where it stands nowhere
unfoldable pub index_in : List Region → Region → ℕ
index_in [] xs = 0
index_in (ys ∷ l) xs = cond (same_region xs ys) 0 (suc (index_in l xs))

unfoldable pub number_of : Automaton → ℕ → Region → ℕ
number_of m l xs = l * region_count m + index_in (regions_of m) xs

-- ---- steps on numbers

unfoldable pub allowed_state : Automaton → ℕ → ℕ → Bool
allowed_state m locations p = ltb p (state_count m locations) && allowed m (location_of m p) (region_of m p)

-- the allowed state of a location and a region, or the number of states where it is none
unfoldable pub state_at : Automaton → ℕ → ℕ → Region → ℕ
state_at m locations l xs = cond (allowed m l xs) (number_of m l xs) (state_count m locations)

-- past the last edge: an edge that opens nowhere, with one clock or more
abbrev pub no_edge : Edge
no_edge = record { source = 0; target = 0; reset = []; lower = []; upper = [] }

abbrev pub edge_at : Automaton → ℕ → Edge
edge_at m e = get_or m.edges e no_edge

-- the time step of an allowed state
unfoldable pub time_from : Automaton → ℕ → ℕ → ℕ
time_from m locations p =
    cond (allowed_state m locations p) (state_at m locations (location_of m p) (successor (region_of m p))) (state_count m locations)

-- the jump of an allowed state along edge e
unfoldable pub jump_from : Automaton → ℕ → ℕ → ℕ → ℕ
jump_from m locations e p =
    cond (allowed_state m locations p && (eqb (edge_at m e).source (location_of m p) && guard_holds (edge_at m e) (region_of m p)))
    (state_at m locations (edge_at m e).target (after (edge_at m e) (region_of m p)))
    (state_count m locations)

-- by labels: 0 is time, e + 1 the jump along edge e
unfoldable pub step_from : Automaton → ℕ → ℕ → ℕ → ℕ
step_from m locations zero p = time_from m locations p
step_from m locations (suc e) p = jump_from m locations e p

-- two allowed states of one location whose regions pass a test
unfoldable pub beside : Automaton → ℕ → (Region → Region → Bool) → ℕ → ℕ → Bool
beside m locations test p q =
    (allowed_state m locations p && allowed_state m locations q)
    && (eqb (location_of m p) (location_of m q) && test (region_of m p) (region_of m q))

-- ---- the system

unfoldable pub flow_test : Automaton → ℕ → ℕ → ℕ → Bool
flow_test m locations p q = ltb q (state_count m locations) && any (suc (length m.edges)) (λ x. eqb (step_from m locations x p) q)

unfoldable pub system_of : Automaton → ℕ → System
system_of m locations =
    record {
      size = state_count m locations;
      start = number_of m m.start (origin m);
      allowed = allowed_state m locations;
      forbidden = λ p. m.forbidden (location_of m p);
      flow = flow_test m locations;
      face = beside m locations face;
      near = beside m locations shares;
    }

unfoldable pub labelled_of : Automaton → ℕ → LabelledSystem
labelled_of m locations = record { system = system_of m locations; labels = suc (length m.edges); next = step_from m locations }
