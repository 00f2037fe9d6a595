-- Closed walks of edges "on the drawing alone", over any choice of edges: first the paper's form, then by rounds.
use Rattle.std.specs.Prelude.{ℕ, zero, suc, ◌<◌, ◌≡◌, List, Bool, true, cond, ◌&&◌, set, replicate}
use Rattle.model.specs.declared.Model.{Model}
use Rattle.limits.specs.Limits.{max_locations}
use Rattle.model.specs.Each.{each, some_below}
use Rattle.model.specs.Model.{source_of, target_of, keeps}
use Rattle.edge_walks.specs.Opening.{OpensAlone, opens_alone, marked_at}

-- a walk of k edges from v to u, all of them of the choice
pub data DrawingWalk (m : Model) (Choice : ℕ → Type 0) : ℕ → ℕ → ℕ → Type 0 where
  here : {v : ℕ} → DrawingWalk m Choice zero v v
  step : {k v u : ℕ} (e : ℕ) → e < m.edges → source_of m e ≡ v → Choice e
      → DrawingWalk m Choice k (target_of m e) u → DrawingWalk m Choice (suc k) v u

-- "A closed walk has one or more edges (or steps) and ends at its beginning."
abbrev pub ClosedWalk : Model → (ℕ → Type 0) → Type 0
ClosedWalk m Choice = (k : ℕ) × (v : ℕ) × DrawingWalk m Choice (suc k) v v

-- the edges of a walk that counts and leaves clock x unreset
abbrev pub Counts : Model → ℕ → ℕ → Type 0
Counts m x e = (keeps m x e ≡ true) × OpensAlone m e

-- "a closed walk of edges that leaves some clock unreset", of those that count
abbrev pub LeavesUnreset : Model → Type 0
LeavesUnreset m = (x : ℕ) × (x < m.clocks) × ClosedWalk m (Counts m x)

-- ---- by rounds: after k of them 1 stands at the locations where a walk of k edges starts

-- an edge that passes marks its source in b where its target is marked in a
abbrev pub mark_source : Bool → ℕ → ℕ → List ℕ → List ℕ → List ℕ
mark_source passes source target a b = cond passes (cond (marked_at a target) (set b source 1) b) b

unfoldable pub mark_edge : Model → (ℕ → Bool) → List ℕ → ℕ → List ℕ → List ℕ
mark_edge m pass a e b = mark_source (pass e) (source_of m e) (target_of m e) a b

unfoldable pub round_of : Model → (ℕ → Bool) → List ℕ → List ℕ
round_of m pass a = each m.edges (mark_edge m pass a) (replicate max_locations 0)

-- as many rounds as there are locations
unfoldable pub survivors : Model → (ℕ → Bool) → List ℕ
survivors m pass = each m.locations (λ i a. round_of m pass a) (replicate max_locations 1)

-- there is a closed walk of edges that pass: some location is still marked
unfoldable pub has_cycle : Model → (ℕ → Bool) → Bool
has_cycle m pass = some_below max_locations (marked_at (survivors m pass))

abbrev pub counts : Model → ℕ → ℕ → Bool
counts m x e = keeps m x e && opens_alone m e

-- a closed walk that counts leaves this clock unreset
abbrev pub unreset_at : Model → ℕ → Bool
unreset_at m x = has_cycle m (counts m x)

-- a closed walk that counts leaves some clock unreset
unfoldable pub unreset : Model → Bool
unreset m = some_below m.clocks (unreset_at m)
