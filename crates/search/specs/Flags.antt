-- The flags of the states on a shortest walk into a goal, from the last level down: a goal at the last level, and a state before it that leads to one
-- of the next level that has the flag. A level is below `level_flag`, which is added to it.
use Rattle.std.specs.Prelude.{◌≡◌, Bool, true, ◌↔◌, ◌⊎◌, List, ℕ, ◌+◌, ◌≤◌, ◌<◌, length, get_or, set}
use Rattle.limits.specs.Limits.{level_flag}
use Rattle.theory.specs.Walk.{dist}
use Rattle.theory.specs.Levels.{distance_to, FoundBelow}
use Rattle.theory.specs.Guide.{Flagged, Along}
use Rattle.search.specs.Rounds.{Agrees}

-- p is to have the flag, where x is the last level
pub data Ahead (Lead : ℕ → ℕ → Type 0) (Goal : ℕ → Type 0) (x : ℕ) (level : List ℕ) (p : ℕ) : Type 0 where
  at_last : get_or level p 0 ≡ x → Goal p → Ahead Lead Goal x level p
  before_last : get_or level p 0 < x → (s : ℕ) → Lead p s → get_or level s 0 ≡ get_or level p 0 + 1 + level_flag → Ahead Lead Goal x level p

-- p has the flag afterwards if it is in T, and else nothing is changed
pub data Tried (T : ℕ → Type 0) (p : ℕ) (level level' : List ℕ) : Type 0 where
  fails : level' ≡ level → (T p → ⊥) → Tried T p level level'
  passes : level' ≡ set level p (get_or level p 0 + level_flag) → T p → Tried T p level level'

-- a relation and goals that the lists tell of, where the fewest steps into a goal are one less than x, and the levels up to x are found
pub record Aims (Lead : ℕ → ℕ → Type 0) (Goal : ℕ → Type 0) (start x : ℕ) (level : List ℕ) (r : ℕ → ℕ → Bool) (goal : ℕ → Bool) : Type 0 where
  pub agrees : Agrees (length level) r start Lead
  pub goals : (p : ℕ) → distance_to (length level) r start p < length level → Goal p ↔ (goal p ≡ true)
  pub last : x ≡ dist (length level) r goal start + 1
  pub short : dist (length level) r goal start < length level
  pub bound : ℕ
  pub beyond : x ≤ bound
  pub upto : FoundBelow (length level) r start bound (λ p. get_or level p 0)

-- some states that are reached have the flag besides
pub record Raised (level level' : List ℕ) : Type 0 where
  pub long : length level' ≡ length level
  pub each : (p : ℕ) → (get_or level' p 0 ≡ get_or level p 0) ⊎ (get_or level' p 0 ≡ get_or level p 0 + level_flag)

-- `level'` has the flags of the states on a shortest walk
pub record FlagsOf (Lead : ℕ → ℕ → Type 0) (Goal : ℕ → Type 0) (start x : ℕ) (level level' : List ℕ) : Type 0 where
  pub raised : Raised level level'
  pub flagged : (r : ℕ → ℕ → Bool) (goal : ℕ → Bool) → Aims Lead Goal start x level r goal
      → Flagged (length level) level_flag r goal start (λ p. get_or level' p 0)

-- ---- the walk along the flags

-- a relation and goals that the lists tell of, K steps away at the fewest, and the flags of a shortest walk
pub record Steered (Lead : ℕ → ℕ → Type 0) (start K : ℕ) (level : List ℕ) (r : ℕ → ℕ → Bool) (goal : ℕ → Bool) : Type 0 where
  pub agrees : Agrees (length level) r start Lead
  pub few : K ≡ dist (length level) r goal start
  pub flagged : Flagged (length level) level_flag r goal start (λ p. get_or level p 0)

-- after i of the K steps of the least shortest walk, at p, with the states so far in `path`
pub record Follows (Lead : ℕ → ℕ → Type 0) (start K : ℕ) (level path : List ℕ) (i p : ℕ) : Type 0 where
  pub along : (r : ℕ → ℕ → Bool) (goal : ℕ → Bool) → Steered Lead start K level r goal → Along (length level) r goal start K path i p
