-- Touch steps: the states that have a corner at a point, and flags of the points whose states are taken in.
use Rattle.std.specs.Prelude.{◌≡◌, Bool, List, ℕ, ◌+◌, ◌*◌, ◌/◌, ◌%◌, ◌≤◌, ◌<◌, length, get_or}
use Rattle.limits.specs.Limits.{max_states, slot_count, point_count}
use Rattle.shapes.specs.Layout.{corners_in}
use Rattle.search.specs.Queue.{Queued, TakesAll, Covers, Between}
use Rattle.marking.specs.Tables.{RegionTables, Spots}

-- on a closed walk, with the point v as a corner; the states of the location begin at `base`
pub record AtPoint (corner heights : List ℕ) (base v q : ℕ) : Type 0 where
  pub slot : ℕ
  pub below : slot < length corner
  pub holds : get_or corner slot 0 ≡ v
  pub is : base + slot / slot_count ≡ q
  pub closed : get_or heights q 0 % 2 ≡ 1

-- the same for a corner of region i from number `from` on
abbrev pub Touches : List ℕ → List ℕ → ℕ → ℕ → ℕ → ℕ → Type 0
Touches corner heights base i from = Between from slot_count (λ k. AtPoint corner heights base (get_or corner (slot_count * i + k) 0))

-- for every flag that is set, of a location and a point, the states there that are on a closed walk are reached
pub record Visits (R : ℕ) (corner heights visited level : List ℕ) : Type 0 where
  pub covers : (k : ℕ) → 0 < get_or visited k 0 → Covers (AtPoint corner heights (k / point_count * R) (k % point_count)) level

-- before states of level x are taken in
pub record Ready (touch : Bool) (R x : ℕ) (shapes heights visited level queue : List ℕ) (n : ℕ) : Type 0 where
  pub small : x ≤ max_states
  pub tables : RegionTables touch (length level) R shapes heights
  pub spots : Spots (length level) R (length visited)
  pub visits : Visits R (corners_in R shapes) heights visited level
  pub fits : Queued level queue n

-- all states of T are taken in, and the flags are right
pub record TakesVisited (R x : ℕ) (T : ℕ → Type 0) (shapes heights visited level level' queue queue' : List ℕ) (n n' : ℕ) : Type 0 where
  pub all : TakesAll x T level level' queue queue' n n'
  pub visits : Visits R (corners_in R shapes) heights visited level'
