-- The tables by region in one slice.
use Rattle.std.specs.Prelude.{◌≡◌, Bool, true, List, ℕ, ◌*◌, ◌≤◌, ◌<◌, length, get_or, take}
use Rattle.limits.specs.Limits.{max_regions, slot_count, point_count}
use Rattle.theory.specs.Region.{regions}
use Rattle.theory.specs.Adjacency.{Holds, Chains}
use Rattle.shapes.specs.Layout.{links_at, shapes_end, rows_in, faces_in, corners_in, links_in, heads_in}
use Rattle.region_corners.specs.Corners.{CornerSlots}
use Rattle.region_corners.specs.Faces.{face_of}

-- the faces of every region of n clocks at ceiling M
pub record FaceShapes (n M : ℕ) (t : List ℕ) : Type 0 where
  pub long : length t ≡ shapes_end (length (regions n M))
  pub face : Holds (rows_in (length (regions n M)) t) (faces_in (length (regions n M)) t) (length (regions n M)) (face_of n M)

-- and their corners
pub record Shapes (n M : ℕ) (t : List ℕ) : Type 0 where
  pub long : length t ≡ shapes_end (length (regions n M))
  pub face : Holds (rows_in (length (regions n M)) t) (faces_in (length (regions n M)) t) (length (regions n M)) (face_of n M)
  pub slots : CornerSlots n M (corners_in (length (regions n M)) t)

-- and for each point a chain through the slots that hold it
pub record Linked (n M : ℕ) (t : List ℕ) : Type 0 where
  pub shapes : Shapes n M t
  pub chains : Chains (corners_in (length (regions n M)) t) (heads_in (length (regions n M)) t) (links_in (length (regions n M)) t)

-- what a search reads: the faces, and where touch steps are asked for the corners with their chains
pub record SearchShapes (touch : Bool) (n M : ℕ) (t : List ℕ) : Type 0 where
  pub faces : FaceShapes n M t
  pub linked : touch ≡ true → Linked n M t

-- ---- the chains alone, for R regions

-- each slot holds the number of a point
pub record Slotted (R : ℕ) (t : List ℕ) : Type 0 where
  pub few : R ≤ max_regions
  pub long : length t ≡ shapes_end R
  pub below : (s : ℕ) → s < slot_count * R → get_or (corners_in R t) s 0 < point_count

-- the chains are there, and all that stands before them is as it was
pub record Chained (R : ℕ) (t t' : List ℕ) : Type 0 where
  pub long : length t' ≡ length t
  pub kept : take (links_at R) t' ≡ take (links_at R) t
  pub chains : Chains (corners_in R t') (heads_in R t') (links_in R t')
