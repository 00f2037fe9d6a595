-- What a model keeps once it is read, and how its flat arrays are looked up. Places that a model does not use hold 0.
use Rattle.std.specs.Prelude.{ℕ, ◌+◌, ◌*◌, ◌/◌, ◌%◌, ◌≤◌, ◌<◌, ◌^◌, ◌≡◌, ◌⊎◌, List, Bool, length, get_or, set, eqb}
use Rattle.model.specs.declared.Model.{Model}
use Rattle.limits.specs.Limits.{max_clocks, max_ceiling, max_locations, max_edges}

-- where a location or an edge has its entry for a clock
abbrev pub slot : ℕ → ℕ → ℕ
slot i x = max_clocks * i + x

abbrev pub source_of : Model → ℕ → ℕ
source_of m e = get_or m.source e 0

abbrev pub target_of : Model → ℕ → ℕ
target_of m e = get_or m.target e 0

-- the stay limit of a location for a clock
abbrev pub limit_at : Model → ℕ → ℕ → ℕ
limit_at m l x = get_or m.invariant (slot l x) 0

-- low and high of an edge for a clock
abbrev pub low_at : Model → ℕ → ℕ → ℕ
low_at m e x = get_or m.lower (slot e x) 0

abbrev pub high_at : Model → ℕ → ℕ → ℕ
high_at m e x = get_or m.upper (slot e x) 0

-- an edge leaves a clock unreset ("reset mask, ... bit i for clock i counted from 0")
abbrev pub keeps : Model → ℕ → ℕ → Bool
keeps m x e = eqb (get_or m.reset e 0 / 2 ^ x % 2) 0

-- each element is below a bound; as unused places hold 0, it may be said of every index
abbrev pub Below : ℕ → List ℕ → Type 0
Below b xs = (i : ℕ) → get_or xs i 0 < b

-- each element of the first list is at most that of the second at its place
abbrev pub AtMost : List ℕ → List ℕ → Type 0
AtMost xs ys = (i : ℕ) → get_or xs i 0 ≤ get_or ys i 0

pub record Sizes (m : Model) : Type 0 where
  pub kind : length m.kind ≡ max_locations
  pub invariant : length m.invariant ≡ max_clocks * max_locations
  pub source : length m.source ≡ max_edges
  pub target : length m.target ≡ max_edges
  pub reset : length m.reset ≡ max_edges
  pub lower : length m.lower ≡ max_clocks * max_edges
  pub upper : length m.upper ≡ max_clocks * max_edges

-- the elements, where there are n clocks, the ceiling c and l locations
pub record Ranges (n c l : ℕ) (m : Model) : Type 0 where
  pub kind : Below 2 m.kind
  pub invariant : Below (c + 1) m.invariant
  pub source : Below l m.source
  pub target : Below l m.target
  pub reset : Below (2 ^ n) m.reset
  pub lower : AtMost m.lower m.upper
  pub upper : Below (c + 1) m.upper

pub record Lawful (m : Model) : Type 0 where
  pub clocks : (1 ≤ m.clocks) × (m.clocks ≤ max_clocks)
  pub ceiling : (1 ≤ m.ceiling) × (m.ceiling ≤ max_ceiling)
  pub locations : (1 ≤ m.locations) × (m.locations ≤ max_locations)
  pub edges : m.edges ≤ max_edges
  pub start : m.start < m.locations
  pub sizes : Sizes m
  pub ranges : Ranges m.clocks m.ceiling m.locations m

-- ---- "Places that a model does not use hold 0"

-- from a place on
abbrev pub ZeroFrom : ℕ → List ℕ → Type 0
ZeroFrom k xs = (i : ℕ) → k ≤ i → get_or xs i 0 ≡ 0

-- where the location or edge is none of the k, or the clock none of the n
abbrev pub ZeroOutside : ℕ → ℕ → List ℕ → Type 0
ZeroOutside k n xs = (i x : ℕ) → x < max_clocks → (k ≤ i) ⊎ (n ≤ x) → get_or xs (slot i x) 0 ≡ 0

pub record Tidy (m : Model) : Type 0 where
  pub kind : ZeroFrom m.locations m.kind
  pub invariant : ZeroOutside m.locations m.clocks m.invariant
  pub source : ZeroFrom m.edges m.source
  pub target : ZeroFrom m.edges m.target
  pub reset : ZeroFrom m.edges m.reset
  pub lower : ZeroOutside m.edges m.clocks m.lower
  pub upper : ZeroOutside m.edges m.clocks m.upper

-- ---- a model with other arrays

-- the same five numbers
abbrev pub with_arrays : Model → List ℕ → List ℕ → List ℕ → List ℕ → List ℕ → List ℕ → List ℕ → Model
with_arrays m kind invariant source target reset lower upper =
    record {
      clocks = m.clocks;
      ceiling = m.ceiling;
      locations = m.locations;
      edges = m.edges;
      start = m.start;
      kind = kind;
      invariant = invariant;
      source = source;
      target = target;
      reset = reset;
      lower = lower;
      upper = upper;
    }

abbrev pub with_invariant : Model → ℕ → ℕ → Model
with_invariant m i v = with_arrays m m.kind (set m.invariant i v) m.source m.target m.reset m.lower m.upper
