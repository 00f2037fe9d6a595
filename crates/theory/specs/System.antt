-- A system of numbered states. Every model gives one; nothing here knows clocks or regions.
use Rattle.std.specs.Prelude.{◌≡◌, Bool, true, ◌&&◌, List, ◌∷◌, ℕ, ◌<◌, eqb}
use Rattle.theory.specs.Below.{any}
use Rattle.theory.specs.Walk.{Walk, within}

-- ---- what is meant

-- 01: "Steps between allowed states".
pub record System : Type 0 where
  -- 01's S; states are the numbers below it
  pub size : ℕ
  -- "the start (all clocks 0)"
  pub start : ℕ
  -- "allowed if each clock is within its stay limit"
  pub allowed : ℕ → Bool
  -- in a location whose "kind" is 1, "forbidden"
  pub forbidden : ℕ → Bool
  -- a time or jump step
  pub flow : ℕ → ℕ → Bool
  -- "Face: same location, to a face"
  pub face : ℕ → ℕ → Bool
  -- same location, "shares a corner with the present one"
  pub near : ℕ → ℕ → Bool

-- a relation between allowed states
abbrev pub Joins : System → (ℕ → ℕ → Bool) → Type 0
Joins Y r = (p q : ℕ) → r p q ≡ true → (Y.allowed p ≡ true) × (Y.allowed q ≡ true)

-- what the system of a model keeps
pub record Laws (Y : System) : Type 0 where
  pub start_allowed : Y.allowed Y.start ≡ true
  pub allowed_below : (p : ℕ) → Y.allowed p ≡ true → p < Y.size
  pub flow_joins : Joins Y Y.flow
  pub face_joins : Joins Y Y.face
  pub near_joins : Joins Y Y.near

-- time and jump steps, none or more, lead from p to q
abbrev pub Reaches : System → ℕ → ℕ → Type 0
Reaches Y p q = (l : List ℕ) × Walk Y.flow p q l

-- 01: "A closed walk has one or more edges (or steps) and ends at its beginning"; this one is "of time and jump steps (never face or touch)".
-- The first step leads to q.
abbrev pub OnClosedWalkIn : System → ℕ → Type 0
OnClosedWalkIn Y p = (q : ℕ) × (l : List ℕ) × Walk Y.flow p p (q ∷ l)

-- ---- what computes it

-- `Reaches`: fewer than `size` steps are enough
unfoldable pub reach : System → ℕ → ℕ → Bool
reach Y p q = within Y.size Y.flow (λ x. eqb x q) Y.size p

-- `OnClosedWalkIn`: a step, and a way back
unfoldable pub on_closed_walk : System → ℕ → Bool
on_closed_walk Y p = any Y.size (λ q. Y.flow p q && reach Y q p)
