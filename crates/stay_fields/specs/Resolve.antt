-- What the stay fields of a model mean, once all its numbers are read: until then they stand as spelt.
use Rattle.std.specs.Prelude.{ℕ, ◌-◌, ◌≤◌, cond, get_or, eqb}
use Rattle.limits.specs.Limits.{max_clocks, max_locations, max_edges}
use Rattle.stay_limits.specs.Stay.{Highs, blank_limit}
use Rattle.model.specs.declared.Model.{Model}
use Rattle.model.specs.Each.{each}
use Rattle.model.specs.Model.{slot, source_of, high_at, with_invariant}

-- what a blank stands for, for a location and a clock: by the mark and the edges
abbrev pub default_at : ℕ → Model → ℕ → ℕ → ℕ
default_at mark m l x = blank_limit mark m.ceiling (source_of m) (λ e. high_at m e x) l m.edges

-- "0 means [that], any other s means limit s-1"
abbrev pub limit_of : ℕ → Model → ℕ → ℕ → ℕ → ℕ
limit_of mark m l x s = cond (eqb s 0) (default_at mark m l x) (s - 1)

-- the limit that the field of a model means, where the fields stand as spelt
abbrev pub meant_at : ℕ → Model → ℕ → ℕ → ℕ
meant_at mark m l x = limit_of mark m l x (get_or m.invariant (slot l x) 0)

abbrev pub resolved_at : ℕ → Model → ℕ → Model → Model
resolved_at mark m l t = each m.clocks (λ x u. with_invariant u (slot l x) (meant_at mark m l x)) t

-- the model with limits for fields
unfoldable pub resolved : ℕ → Model → Model
resolved mark m = each m.locations (resolved_at mark m) m

-- what that takes
pub record Resolvable (m : Model) : Type 0 where
  pub clocks : m.clocks ≤ max_clocks
  pub locations : m.locations ≤ max_locations
  pub edges : m.edges ≤ max_edges
  pub highs : Highs m.upper
