-- The least distance of the states of a goal, as a scan finds it. A level is one more than the distance of a state that is reached, and 0 for the others.
use Rattle.std.specs.Prelude.{◌≡◌, Bool, true, Option, None, Some, ℕ, zero, suc, ◌+◌, ◌≤◌, ◌<◌, min}

-- the lower of `best` and the distance of a state with this level, if it is reached
abbrev pub lower_distance : Option ℕ → ℕ → Option ℕ
lower_distance best zero = best
lower_distance None (suc d) = Some d
lower_distance (Some b) (suc d) = Some (min b d)

-- the least distance of the goals before place i that are reached, if there are any
pub data LeastDistance (goal : ℕ → Bool) (f : ℕ → ℕ) (i : ℕ) : Option ℕ → Type 0 where
  none_reached : ((p : ℕ) → p < i → goal p ≡ true → f p ≡ 0) → LeastDistance goal f i None
  reached_at : {d : ℕ} (q : ℕ) → q < i → goal q ≡ true → f q ≡ d + 1 → ((p : ℕ) → p < i → goal p ≡ true → 0 < f p → d + 1 ≤ f p)
      → LeastDistance goal f i (Some d)
