-- 02: "In models with mark 2, 0 means the greatest high end for that clock among the edges leaving the location, or the ceiling where no edge leaves.
-- Mark 1 keeps its meaning."
use Rattle.std.specs.Prelude.{ℕ, ◌≤◌, ◌<◌, ◌≡◌, get_or}
use Rattle.parser.specs.Parse.{Reading}
use Rattle.model.specs.Model.{high_at}

-- edge e leaves location l: it is drawn from there, whether it can open or not, and wherever it leads
abbrev pub Leaves : Reading → ℕ → ℕ → Type 0
Leaves r l e = (e < r.model.edges) × (get_or r.model.source e 0 ≡ l)

-- the limit that a blank stay field of a location means for a clock
pub data Blank (r : Reading) (l x : ℕ) : ℕ → Type 0 where
  ceiling : r.mark ≡ 1 → Blank r l x r.model.ceiling
  none : r.mark ≡ 2 → ((e : ℕ) → Leaves r l e → ⊥) → Blank r l x r.model.ceiling
  greatest : r.mark ≡ 2 → (e : ℕ) → Leaves r l e → ((d : ℕ) → Leaves r l d → high_at r.model d x ≤ high_at r.model e x)
      → Blank r l x (high_at r.model e x)
