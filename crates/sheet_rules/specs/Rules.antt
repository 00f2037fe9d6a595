-- The rules of a sheet by the arrays. `sheet` has the numbers, each 2h+i; the states of a location are base, base + 1, ..
use Rattle.std.specs.Prelude.{◌≡◌, Bool, true, false, ◌↔◌, List, ℕ, ◌+◌, ◌*◌, ◌/◌, ◌%◌, ◌≤◌, ◌<◌, length, get_or}
use Rattle.theory.specs.System.{System}
use Rattle.theory.specs.Adjacency.{Adjacent}
use Rattle.theory.specs.Sheet.{in_of, height_of}
use Rattle.limits.specs.Limits.{slot_count, point_count}
use Rattle.shapes.specs.Layout.{rows_in, faces_in, corners_in, ShareCorner}
use Rattle.model.specs.declared.Model.{Model}
use Rattle.graph.specs.Plan.{system_of_model}
use Rattle.graph.specs.States.{states}
use Rattle.sheet_rules.specs.Tables.{RuleSizes, RuleTables}

-- "a state not allowed has 0", so it is out
abbrev pub Blank : System → List ℕ → Type 0
Blank Y sheet = (p : ℕ) → p < Y.size → Y.allowed p ≡ false → get_or sheet p 0 ≡ 0

-- ---- corners

-- v is the point in one of the first n slots of region i
pub record HasCorner (corner : List ℕ) (i n v : ℕ) : Type 0 where
  pub slot : ℕ
  pub below : slot < n
  pub is : get_or corner (slot_count * i + slot) 0 ≡ v

-- v is a corner of an in-state whose region is below n
pub record InCorner (sheet corner : List ℕ) (base n v : ℕ) : Type 0 where
  pub region : ℕ
  pub below : region < n
  pub inside : in_of sheet (base + region) ≡ true
  pub corner_of : HasCorner corner region slot_count v

-- a flag for each point: 1 where it is such a corner
pub record Noted (sheet corner noted : List ℕ) (base n : ℕ) : Type 0 where
  pub long : length noted ≡ point_count
  pub is : (v : ℕ) → v < point_count → (get_or noted v 0 ≡ 1) ↔ InCorner sheet corner base n v

-- 01: region i "shares a corner with an in-state of its location"
pub record Touched (sheet corner : List ℕ) (base R i : ℕ) : Type 0 where
  pub region : ℕ
  pub below : region < R
  pub inside : in_of sheet (base + region) ≡ true
  pub shared : ShareCorner corner region i

-- ---- the rules

-- what a state asks of the number of each state that a step leads to: in where `inside` is 1, and a height below a bound
abbrev pub StepKeeps : ℕ → ℕ → ℕ → Type 0
StepKeeps inside bound x = (inside ≤ x % 2) × (x / 2 < bound)

abbrev pub StepsKeep : List ℕ → List ℕ → List ℕ → ℕ → ℕ → ℕ → Type 0
StepsKeep sheet first targets p inside bound = (q : ℕ) → Adjacent first targets p q → StepKeeps inside bound (get_or sheet q 0)

abbrev pub FacesIn : List ℕ → List ℕ → List ℕ → ℕ → ℕ → Type 0
FacesIn sheet rows faces base i = (j : ℕ) → Adjacent rows faces i j → in_of sheet (base + j) ≡ true

-- region i of a location
pub record StateKeeps (sheet first targets shapes : List ℕ) (base R : ℕ) (forbidden : Bool) (i : ℕ) : Type 0 where
  -- "no in-state forbidden"
  pub ordinary : in_of sheet (base + i) ≡ true → forbidden ≡ false
  -- "the in-states closed under time, jump and face"
  pub face_in : in_of sheet (base + i) ≡ true → FacesIn sheet (rows_in R shapes) (faces_in R shapes) base i
  pub flow_in : in_of sheet (base + i) ≡ true → (q : ℕ) → Adjacent first targets (base + i) q → in_of sheet q ≡ true
  -- "no time or jump step raises the height"
  pub no_rise : (q : ℕ) → Adjacent first targets (base + i) q → height_of sheet q ≤ height_of sheet (base + i)
  -- "a state that is out and shares a corner with an in-state of its location has every time and jump step strictly lowering it"
  pub lower : in_of sheet (base + i) ≡ false → Touched sheet (corners_in R shapes) base R i
      → (q : ℕ) → Adjacent first targets (base + i) q → height_of sheet q < height_of sheet (base + i)

-- all regions of a location
abbrev pub LocationKeeps : List ℕ → List ℕ → List ℕ → List ℕ → ℕ → ℕ → Bool → Type 0
LocationKeeps sheet first targets shapes base R forbidden =
    (i : ℕ) → i < R → StateKeeps sheet first targets shapes base R forbidden i

-- ---- what the tests are asked of

-- a location of R regions, whose states begin at `base`
pub record LocationAsked (sheet first targets shapes : List ℕ) (base R : ℕ) : Type 0 where
  pub room : base + R ≤ length sheet
  pub sizes : RuleSizes (length sheet) R first targets shapes

pub record SheetAsked (m : Model) (first targets shapes sheet : List ℕ) : Type 0 where
  pub filled : RuleTables m first targets shapes
  pub long : length sheet ≡ states m
  pub blank : Blank (system_of_model m) sheet
