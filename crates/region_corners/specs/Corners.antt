-- The corners of every region as numbers of points, by the region's number.
use Rattle.std.specs.Prelude.{◌≡◌, true, ◌↔◌, List, [], ℕ, ◌+◌, ◌-◌, ◌*◌, ◌<◌, length, get_or}
use Rattle.shapes.specs.Layout.{ShareCorner}
use Rattle.theory.specs.Region.{Clock, regions, shares}
use Rattle.region.specs.Corners.{code_at}
use Rattle.region.specs.declared.Region.{Region}
use Rattle.limits.specs.Limits.{slot_count, point_count}

-- the region with a number
abbrev pub region_at : ℕ → ℕ → ℕ → List Clock
region_at n M i = get_or (regions n M) i []

-- from slot s on stand x corners of g, by the thresholds from the largest down, and the slots before are as they were
pub record CornersFrom (g : Region) (s x : ℕ) (corner corner' : List ℕ) : Type 0 where
  pub long : length corner' ≡ length corner
  pub kept : (k : ℕ) → k < s → get_or corner' k 0 ≡ get_or corner k 0
  pub holds : (t : ℕ) → t < x → get_or corner' (s + t) 0 ≡ code_at g (slot_count - t)

-- what the slots of all regions say
pub record CornerSlots (n M : ℕ) (corner : List ℕ) : Type 0 where
  pub long : length corner ≡ slot_count * length (regions n M)
  pub below : (s : ℕ) → s < length corner → get_or corner s 0 < point_count
  -- 01: "a region that shares a corner with the present one"
  pub shared : (i j : ℕ) → i < length (regions n M) → j < length (regions n M)
      → (shares (region_at n M i) (region_at n M j) ≡ true) ↔ ShareCorner corner i j
