-- The four steps, the marked set, and the verdict.
use Rattle.std.specs.Prelude.{◌≡◌, Bool, true, ◌&&◌, ◌||◌, ℕ, eqb}
use Rattle.theory.specs.Below.{any}
use Rattle.theory.specs.Walk.{within}
use Rattle.theory.specs.System.{System, OnClosedWalkIn, on_closed_walk}

-- ---- what is meant

-- 01: "Time", "Jump" (`flow` is both), "Face: same location, to a face", "Touch: same location, to a region that shares a corner with the
-- present one and lies on a closed walk of time and jump steps".
pub data StepIn (Y : System) (p q : ℕ) : Type 0 where
  by_flow : Y.flow p q ≡ true → StepIn Y p q
  by_face : Y.face p q ≡ true → StepIn Y p q
  by_touch : Y.near p q ≡ true → OnClosedWalkIn Y q → StepIn Y p q

-- 01: a "set with the start (all clocks 0) that is closed under all four"
pub record ClosedSet (Y : System) (M : ℕ → Type 0) : Type 0 where
  pub holds_start : M Y.start
  pub closed : (p q : ℕ) → M p → StepIn Y p q → M q

-- 01: "The marked set is the smallest set" of that kind: by `marked_smallest` it is one, and lies in each.
pub data MarkedIn (Y : System) : ℕ → Type 0 where
  begin : MarkedIn Y Y.start
  onward : {p q : ℕ} → MarkedIn Y p → StepIn Y p q → MarkedIn Y q

-- the verdict unsafe: some marked state is in a forbidden location
abbrev pub Unsafe : System → Type 0
Unsafe Y = (s : ℕ) × MarkedIn Y s × (Y.forbidden s ≡ true)

-- ---- what computes it

-- `StepIn`
unfoldable pub step : System → ℕ → ℕ → Bool
step Y p q = Y.flow p q || (Y.face p q || (Y.near p q && on_closed_walk Y q))

-- `MarkedIn`: fewer than `size` steps lead there from the start
unfoldable pub marks : System → ℕ → Bool
marks Y s = within Y.size (step Y) (λ x. eqb x s) Y.size Y.start

-- `Unsafe`
unfoldable pub unsafe : System → Bool
unsafe Y = any Y.size (λ s. marks Y s && Y.forbidden s)
