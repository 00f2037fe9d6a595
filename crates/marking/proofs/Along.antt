-- What a method asks of the tables, from what the search keeps of them.
use mathlib.Core.List.{List}
use Prim.Native.Nat.{ℕ, ◌≤◌}
use Rattle.limits.specs.Limits.{max_states}
use Rattle.search.specs.Queue.{Queued}
use Rattle.marking.specs.declared.reach.Ways.{Ways}
use Rattle.marking.specs.Corners.{Ready}
use Rattle.marking.specs.Along.{Agreed}

pub ready_of : {w : Ways} {x : ℕ} {visited level queue : List ℕ} {n : ℕ} → x ≤ max_states → Agreed w visited level → Queued level queue n
    → Ready w.touch w.regions x w.shapes.now w.heights.now visited level queue n
ready_of s A F = record { small = s; tables = A.tables; spots = A.spots; visits = A.visits; fits = F }
