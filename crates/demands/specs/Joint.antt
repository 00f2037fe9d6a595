-- Request (g) of 02: the plans that the quicker judge takes.
use Rattle.std.specs.Prelude.{ℕ, suc}
use Rattle.model.specs.declared.Model.{Model}
use Rattle.edge_walks.specs.Opening.{OpensAlone}
use Rattle.edge_walks.specs.Cycle.{DrawingWalk}
use Rattle.edge_walks.specs.Joint.{ResetsEvery}
use Rattle.demands.specs.Opening.{Has}

-- "those plans in which each closed walk of edges, counted as under (f), has an edge resetting every clock"
pub record JointReset (m : Model) : Type 0 where
  pub has_one : (k v : ℕ) (w : DrawingWalk m (OpensAlone m) (suc k) v v) → (e : ℕ) × Has w e × ResetsEvery m e
