-- States of an automaton, their four kinds of step, and the marked set (01, "Steps between allowed states"), over any number of clocks.
-- A state is a location with a region.
use Rattle.std.specs.Prelude.{◌≡◌, Bool, true, ◌&&◌, ℕ, suc, replicate}
use mathlib.Core.List.{List, [], ◌∷◌, Memᴰ}
use Rattle.theory.specs.Automaton.{Automaton, Edge}
use Rattle.theory.specs.Region.{Region, clock, Fits, Attains, Lawful, Face, Shares, successor, reset_clocks, close_up, fits, attains, lawful}

-- "It is allowed if each clock is within its stay limit"
pub record Allowed (m : Automaton) (l : ℕ) (xs : Region) : Type 0 where
  pub region : Lawful m.clocks m.ceiling xs
  pub stays : Fits xs (m.invariant l)

-- a jump along g opens at a region of location l: "w at least low, high as for a stay limit"
pub record Enabled (m : Automaton) (g : Edge) (l : ℕ) (xs : Region) : Type 0 where
  pub drawn : Memᴰ g m.edges
  pub here : g.source ≡ l
  pub low : Attains xs g.lower
  pub high : Fits xs g.upper

-- where it leads
abbrev pub after : Edge → Region → Region
after g xs = close_up (reset_clocks g.reset xs)

-- A time or jump step between allowed states. Allowed regions keep the ceiling, so there is no time step past it.
pub data Flow (m : Automaton) (l : ℕ) (xs : Region) : ℕ → Region → Type 0 where
  time : Allowed m l xs → Allowed m l (successor xs) → Flow m l xs l (successor xs)
  jump : (g : Edge) → Enabled m g l xs → Allowed m l xs → Allowed m g.target (after g xs) → Flow m l xs g.target (after g xs)

-- a walk of k time and jump steps from a state to a state
pub data FlowWalk (m : Automaton) : ℕ → Region → ℕ → Region → ℕ → Type 0 where
  stop : {l : ℕ} {xs : Region} → FlowWalk m l xs l xs 0
  move : {l l₁ l₂ k : ℕ} {xs ys zs : Region} → Flow m l xs l₁ ys → FlowWalk m l₁ ys l₂ zs k → FlowWalk m l xs l₂ zs (suc k)

-- "A closed walk has one or more edges (or steps) and ends at its beginning."
abbrev pub OnClosedWalk : Automaton → ℕ → Region → Type 0
OnClosedWalk m l xs = (k : ℕ) × FlowWalk m l xs l xs (suc k)

-- the four steps
pub data Step (m : Automaton) (l : ℕ) (xs : Region) : ℕ → Region → Type 0 where
  flow : {k : ℕ} {ys : Region} → Flow m l xs k ys → Step m l xs k ys
  face : {ys : Region} → Allowed m l xs → Allowed m l ys → Face xs ys → Step m l xs l ys
  touch : {ys : Region} → Allowed m l xs → Allowed m l ys → Shares xs ys → OnClosedWalk m l ys → Step m l xs l ys

-- the region of whole values
abbrev pub point : List ℕ → Region
point [] = []
point (x ∷ v) = clock x 0 ∷ point v

-- the start: all clocks 0
abbrev pub origin : Automaton → Region
origin m = point (replicate m.clocks 0)

-- "The marked set is the smallest set with the start (all clocks 0) that is closed under all four."
pub data Marked (m : Automaton) : ℕ → Region → Type 0 where
  begin : Marked m m.start (origin m)
  onward : {l k : ℕ} {xs ys : Region} → Marked m l xs → Step m l xs k ys → Marked m k ys

-- a "set with the start (all clocks 0) that is closed under all four"
pub record StepClosed (m : Automaton) (P : ℕ → Region → Type 0) : Type 0 where
  pub start : P m.start (origin m)
  pub step : (l : ℕ) (xs : Region) (k : ℕ) (ys : Region) → P l xs → Step m l xs k ys → P k ys

-- the verdict unsafe: some marked state is in a forbidden location
abbrev pub ForbiddenMarked : Automaton → Type 0
ForbiddenMarked m = (l : ℕ) × (xs : Region) × Marked m l xs × (m.forbidden l ≡ true)

-- a set of states that has the start and is closed under time and jump
pub record FlowClosed (m : Automaton) (P : ℕ → Region → Type 0) : Type 0 where
  pub start : P m.start (origin m)
  pub flow : (l : ℕ) (xs : Region) (k : ℕ) (ys : Region) → P l xs → Flow m l xs k ys → P k ys

-- ---- the same as tests

unfoldable pub allowed : Automaton → ℕ → Region → Bool
allowed m l xs = lawful m.clocks m.ceiling xs && fits xs (m.invariant l)

-- the guard of an edge holds
unfoldable pub guard_holds : Edge → Region → Bool
guard_holds g xs = attains xs g.lower && fits xs g.upper
