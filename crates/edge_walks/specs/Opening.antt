-- 02: "A closed walk counts from now on only if every edge in it can open alone", by the drawing: clock by clock, from lows, resets and stay limits.
use Rattle.std.specs.Prelude.{ℕ, ◌≤◌, ◌<◌, ◌≡◌, Bool, true, false, cond, ◌&&◌, List, get_or, eqb, leb}
use Rattle.model.specs.declared.Model.{Model}
use Rattle.model.specs.Each.{all_below}
use Rattle.model.specs.Model.{source_of, target_of, limit_at, low_at, keeps}

-- "each low is within the stay limit of its from-location, and each clock it doesn't reset has a low within the stay limit of its to-location"
pub record OpensAlone (m : Model) (e : ℕ) : Type 0 where
  pub leaves : (x : ℕ) → x < m.clocks → low_at m e x ≤ limit_at m (source_of m e) x
  pub enters : (x : ℕ) → x < m.clocks → keeps m x e ≡ true → low_at m e x ≤ limit_at m (target_of m e) x

-- ---- computed

-- whether a clock lets an edge open: by its low, the stay limits of from- and to-location, and whether the edge keeps it
abbrev pub lets_open : ℕ → ℕ → ℕ → Bool → Bool
lets_open low from to kept = leb low from && cond kept (leb low to) true

abbrev pub opens_for : Model → ℕ → ℕ → Bool
opens_for m e x = lets_open (low_at m e x) (limit_at m (source_of m e) x) (limit_at m (target_of m e) x) (keeps m x e)

unfoldable pub opens_alone : Model → ℕ → Bool
opens_alone m e = all_below m.clocks (opens_for m e)

-- ---- as flags, one for each edge; marks are flags by number

abbrev pub marked_at : List ℕ → ℕ → Bool
marked_at a i = eqb (get_or a i 0) 1

abbrev pub flag_of : Bool → ℕ
flag_of b = cond b 1 0

abbrev pub flag_at : List Bool → ℕ → Bool
flag_at flags e = get_or flags e false

-- the edges of a model with a flag are those that pass
pub record Flagged (m : Model) (flags : List Bool) (pass : ℕ → Bool) : Type 0 where
  pub at : (e : ℕ) → e < m.edges → flag_at flags e ≡ pass e
