-- The tables that the search reads. States are numbered by location, then region: p is region p % R of location p / R.
use Rattle.std.specs.Prelude.{◌≡◌, Bool, true, false, ◌&&◌, ◌↔◌, List, ℕ, ◌*◌, ◌/◌, ◌%◌, ◌≤◌, ◌<◌, length, get_or, eqb}
use Rattle.limits.specs.Limits.{max_regions, max_states, slot_count, point_count}
use Rattle.shapes.specs.Layout.{shapes_end, rows_in, faces_in, corners_in, links_in, heads_in, ShareCorner}
use Rattle.theory.specs.System.{System, Laws, on_closed_walk}
use Rattle.theory.specs.Marked.{step}
use Rattle.theory.specs.Adjacency.{Adjacent, Holds, Chains, Rows}
use Rattle.theory.specs.Levels.{mark}
use Rattle.theory.specs.Rounds.{rounds}
use Rattle.search.specs.Queue.{reached_count, ByLevel}

-- ---- what the tables say of a system

pub record Tables (Y : System) (start R : ℕ) (first targets shapes heights : List ℕ) : Type 0 where
  pub starts : Y.start ≡ start
  -- time and jump steps
  pub flow : Holds first targets Y.size Y.flow
  -- which regions are faces of which
  pub face_of : ℕ → ℕ → Bool
  pub facing : Holds (rows_in R shapes) (faces_in R shapes) R face_of
  -- 01: "Face: same location, to a face"
  pub face : (p q : ℕ) → (Y.face p q ≡ true)
      ↔ ((Y.allowed p ≡ true) × (q < Y.size) × (p / R ≡ q / R) × (face_of (p % R) (q % R) ≡ true))
  -- 01: "same location, to a region that shares a corner with the present one and lies on a closed walk of time and jump steps": the lowest bit of
  -- `heights` tells of the last. With `heights` at zero these are the tables of a system without touch.
  pub touch : (p q : ℕ) → p < Y.size → q < Y.size → ((Y.near p q && on_closed_walk Y q) ≡ true)
      ↔ ((Y.allowed p ≡ true) × (p / R ≡ q / R) × ShareCorner (corners_in R shapes) (p % R) (q % R) × (get_or heights q 0 % 2 ≡ 1))

-- ---- their sizes, by the number S of states and the number R of regions

-- the tables by region
pub record Faces (R : ℕ) (shapes : List ℕ) : Type 0 where
  pub regions : R ≤ max_regions
  pub long : length shapes ≡ shapes_end R
  pub face : Rows (rows_in R shapes) (faces_in R shapes) R

-- `touch`: the search takes touch steps, and only then reads the tables of corners
pub record RegionTables (touch : Bool) (S R : ℕ) (shapes heights : List ℕ) : Type 0 where
  pub some : 0 < R
  pub states : S ≤ max_states
  pub locations : ℕ
  pub whole : S ≡ locations * R
  pub faces : Faces R shapes
  pub corner_below : touch ≡ true → (s : ℕ) → s < slot_count * R → get_or (corners_in R shapes) s 0 < point_count
  -- `heads` and `links` lead through the slots that hold a point
  pub chains : touch ≡ true → Chains (corners_in R shapes) (heads_in R shapes) (links_in R shapes)
  pub heights_long : length heights ≡ S
  -- without touch steps no state is told to lie on a closed walk
  pub none_closed : touch ≡ false → (q : ℕ) → get_or heights q 0 % 2 ≡ 0

pub record SearchTables (touch : Bool) (S R : ℕ) (first targets shapes heights : List ℕ) : Type 0 where
  pub flow : Rows first targets S
  pub tables : RegionTables touch S R shapes heights

-- a flag for each location and point
pub record Spots (S R flags : ℕ) : Type 0 where
  pub locations : ℕ
  pub states : S ≡ locations * R
  pub spots : flags ≡ locations * point_count

-- ---- what a state leads to, by the tables alone

pub data Successor (R : ℕ) (first targets shapes heights : List ℕ) (p q : ℕ) : Type 0 where
  to_successor : Adjacent first targets p q → Successor R first targets shapes heights p q
  to_face : p / R ≡ q / R → Adjacent (rows_in R shapes) (faces_in R shapes) (p % R) (q % R) → Successor R first targets shapes heights p q
  to_touched : p / R ≡ q / R → ShareCorner (corners_in R shapes) (p % R) (q % R) → get_or heights q 0 % 2 ≡ 1
      → Successor R first targets shapes heights p q

-- ---- what the search finds

-- the distance of each state from the start plus one, or 0 where no steps lead to it
pub record Distances (Y : System) (distance : List ℕ) : Type 0 where
  pub long : length distance ≡ Y.size
  pub is : (p : ℕ) → p < Y.size → get_or distance p 0 ≡ mark Y.size (step Y) Y.start p

-- of every system that the tables tell of: its distances, and how many rounds there are; and `queue` lists the marked states level by level, each once
pub record Found (start R : ℕ) (first targets shapes heights distance queue : List ℕ) (r : ℕ) : Type 0 where
  pub order : ByLevel distance queue (reached_count distance)
  pub distances : (Y : System) → Laws Y → Y.size ≡ length distance → Tables Y start R first targets shapes heights → Distances Y distance
  pub counted : (Y : System) → Laws Y → Y.size ≡ length distance → Tables Y start R first targets shapes heights → r ≡ rounds Y

-- 01: "kind (0 ordinary, 1 forbidden)", by location
abbrev pub Forbids : System → ℕ → List ℕ → Type 0
Forbids Y R kind = (p : ℕ) → p < Y.size → Y.forbidden p ≡ eqb (get_or kind (p / R) 0) 1
