-- 02: "plans in which each closed walk of edges, counted as under (f), has an edge resetting every clock": one edge, not the walk's edges together.
-- First the paper's form, then by reset masks.
use Rattle.std.specs.Prelude.{ℕ, ◌-◌, ◌^◌, ◌<◌, ◌≡◌, Bool, false, not, ◌&&◌, get_or, eqb}
use Rattle.model.specs.declared.Model.{Model}
use Rattle.model.specs.Model.{keeps}
use Rattle.edge_walks.specs.Opening.{OpensAlone, opens_alone}
use Rattle.edge_walks.specs.Cycle.{ClosedWalk, has_cycle}

-- "an edge resetting every clock"
abbrev pub ResetsEvery : Model → ℕ → Type 0
ResetsEvery m e = (x : ℕ) → x < m.clocks → keeps m x e ≡ false

-- the edges of a walk that counts and has no such edge
abbrev pub PartialReset : Model → ℕ → Type 0
PartialReset m e = (ResetsEvery m e → ⊥) × OpensAlone m e

-- 17: "a counted closed walk has no such edge"
abbrev pub LacksJointReset : Model → Type 0
LacksJointReset m = ClosedWalk m (PartialReset m)

-- ---- computed

-- the edge's mask is the largest of so many clocks
abbrev pub resets_every : Model → ℕ → Bool
resets_every m e = eqb (get_or m.reset e 0) (2 ^ m.clocks - 1)

abbrev pub partial_reset : Model → ℕ → Bool
partial_reset m e = not (resets_every m e) && opens_alone m e

-- a closed walk that counts has no edge that resets every clock
unfoldable pub lacks_joint_reset : Model → Bool
lacks_joint_reset m = has_cycle m (partial_reset m)
