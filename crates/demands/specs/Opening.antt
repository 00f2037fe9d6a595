-- Request (f) of 02: the walks that 01 tested, and those of them that no longer count.
use Rattle.std.specs.Prelude.{◌≡◌, true, ◌⊎◌, ℕ, suc, ◌<◌}
use Rattle.model.specs.declared.Model.{Model}
use Rattle.model.specs.Model.{keeps}
use Rattle.edge_walks.specs.Opening.{OpensAlone}
use Rattle.edge_walks.specs.Cycle.{DrawingWalk, here, step, ClosedWalk}

abbrev pub Keeps : Model → ℕ → ℕ → Type 0
Keeps m x e = keeps m x e ≡ true

-- "Document 01's test on all edges": "a closed walk of edges that leaves some clock unreset"
abbrev pub UnresetBefore : Model → Type 0
UnresetBefore m = (x : ℕ) × (x < m.clocks) × ClosedWalk m (Keeps m x)

-- the walk has this edge
abbrev pub Has : {m : Model} {Choice : ℕ → Type 0} {k v u : ℕ} → DrawingWalk m Choice k v u → ℕ → Type 0
Has here i = ⊥
Has (step e h s c w) i = (i ≡ e) ⊎ Has w i

-- Of the walks that 01 refused a model for, none counts: each has an edge that cannot open alone.
pub record NoneCounts (m : Model) : Type 0 where
  pub idle : (x : ℕ) → x < m.clocks → (k v : ℕ) (w : DrawingWalk m (Keeps m x) (suc k) v v) → (e : ℕ) × Has w e × (OpensAlone m e → ⊥)
