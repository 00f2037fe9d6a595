-- The parts of a slice that holds the tables of R regions, one after the other.
use Rattle.std.specs.Prelude.{◌≡◌, List, ℕ, ◌+◌, ◌-◌, ◌*◌, ◌≤◌, ◌<◌, length, get_or, take, drop}
use Rattle.limits.specs.Limits.{max_regions, slot_count, point_count, max_faces}

-- ---- where each part begins; the first, `rows`, at 0

abbrev pub faces_at : ℕ → ℕ
faces_at R = R + 1

abbrev pub corners_at : ℕ → ℕ
corners_at R = R + 1 + max_faces * R

abbrev pub links_at : ℕ → ℕ
links_at R = R + 1 + max_faces * R + slot_count * R

abbrev pub heads_at : ℕ → ℕ
heads_at R = R + 1 + max_faces * R + slot_count * R + slot_count * R

abbrev pub shapes_end : ℕ → ℕ
shapes_end R = R + 1 + max_faces * R + slot_count * R + slot_count * R + point_count

-- ---- the parts, as code cuts them

-- the places from a up to b
abbrev pub part : ℕ → ℕ → List ℕ → List ℕ
part a b t = take (b - a) (drop a t)

-- where the faces of each region begin among them
abbrev pub rows_in : ℕ → List ℕ → List ℕ
rows_in R t = take (faces_at R) t

-- the faces, by the regions' numbers
abbrev pub faces_in : ℕ → List ℕ → List ℕ
faces_in R t = part (faces_at R) (corners_at R) t

-- the numbers of the points that are corners of each region
abbrev pub corners_in : ℕ → List ℕ → List ℕ
corners_in R t = part (corners_at R) (links_at R) t

-- for each slot the next one that holds its point
abbrev pub links_in : ℕ → List ℕ → List ℕ
links_in R t = part (links_at R) (heads_at R) t

-- for each point the first slot that holds it
abbrev pub heads_in : ℕ → List ℕ → List ℕ
heads_in R t = part (heads_at R) (shapes_end R) t

-- ---- what is said of them

-- a slice as long as the tables of R regions
pub record ShapesRoom (R : ℕ) (shapes : List ℕ) : Type 0 where
  pub few : R ≤ max_regions
  pub long : length shapes ≡ shapes_end R

-- two regions have a corner in common: the slots of region i begin at slot_count * i
pub record ShareCorner (corner : List ℕ) (i j : ℕ) : Type 0 where
  pub left : ℕ
  pub right : ℕ
  pub left_below : left < slot_count
  pub right_below : right < slot_count
  pub same : get_or corner (slot_count * i + left) 0 ≡ get_or corner (slot_count * j + right) 0
