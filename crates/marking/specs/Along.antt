-- What the methods of the tables promise of a queue and of the flags of points.
use Rattle.std.specs.Prelude.{◌≡◌, Bool, List, ℕ, length}
use Rattle.shapes.specs.Layout.{corners_in}
use Rattle.search.specs.declared.reach.Reached.{Reached}
use Rattle.marking.specs.declared.reach.Ways.{Ways}
use Rattle.marking.specs.Tables.{RegionTables, Spots, Successor}
use Rattle.marking.specs.Corners.{AtPoint, Visits, Ready, TakesVisited}

-- where each state leads
abbrev pub leads_by : Ways → ℕ → ℕ → Type 0
leads_by w = Successor w.regions w.steps.first.now w.steps.targets.now w.shapes.now w.heights.now

-- the tables fit the states that the levels are of, and the flags are right
pub record Agreed (w : Ways) (visited level : List ℕ) : Type 0 where
  pub nodes : length level ≡ w.steps.nodes
  pub tables : RegionTables w.touch (length level) w.regions w.shapes.now w.heights.now
  pub spots : Spots (length level) w.regions (length visited)
  pub visits : Visits w.regions (corners_in w.regions w.shapes.now) w.heights.now visited level

-- on a closed walk, with the point v of a location as a corner
abbrev pub AtPointOf : Ways → ℕ → ℕ → ℕ → Type 0
AtPointOf w base v = AtPoint (corners_in w.regions w.shapes.now) w.heights.now base v

-- before states of level x are taken in, with touch steps
abbrev pub ReadyIn : ℕ → Ways → List ℕ → Reached → Type 0
ReadyIn x w visited r = Ready Bool.true w.regions x w.shapes.now w.heights.now visited r.level.now r.queue.now r.end

-- all states of T are taken in, and the flags are right
abbrev pub TakesMarked : ℕ → (ℕ → Type 0) → Ways → List ℕ → Reached → Reached → Type 0
TakesMarked x T w visited old new =
    TakesVisited w.regions x T w.shapes.now w.heights.now visited old.level.now new.level.now old.queue.now new.queue.now old.end new.end
