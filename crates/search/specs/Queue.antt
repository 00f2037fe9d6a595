-- The states reached so far, in the order in which they were found, and what a part of a round adds to them.
-- `level` holds one more than the distance of a state that is reached, and 0 for the others.
use Rattle.std.specs.Prelude.{◌≡◌, ◌⊎◌, List, ℕ, ◌+◌, ◌≤◌, ◌<◌, length, get_or, slice_range, ltb}
use Rattle.limits.specs.Limits.{max_states}
use Rattle.theory.specs.Below.{count}

-- how many are reached
abbrev pub reached_count : List ℕ → ℕ
reached_count level = count (length level) (λ p. ltb 0 (get_or level p 0))

-- the queue's first n places are the states that are reached, each once
pub record Queued (level queue : List ℕ) (n : ℕ) : Type 0 where
  pub limit : length level ≤ max_states
  pub same : length queue ≡ length level
  pub below : (i : ℕ) → i < n → get_or queue i 0 < length level
  pub reached : (i : ℕ) → i < n → 0 < get_or level (get_or queue i 0) 0
  pub found : (p : ℕ) → p < length level → 0 < get_or level p 0 → (i : ℕ) × (i < n) × (get_or queue i 0 ≡ p)
  pub once : (i j : ℕ) → i < j → j < n → get_or queue i 0 ≡ get_or queue j 0 → ⊥
  pub many : reached_count level ≡ n

-- and they stand there level by level
pub record ByLevel (level queue : List ℕ) (n : ℕ) : Type 0 where
  pub fits : Queued level queue n
  pub bounded : (p : ℕ) → p < length level → get_or level p 0 ≤ n
  pub sorted : (i j : ℕ) → i ≤ j → j < n → get_or level (get_or queue i 0) 0 ≤ get_or level (get_or queue j 0) 0

-- some states of T that were not reached are taken in: they get x + 1, and stand in the queue from place n on
pub record Takes (x : ℕ) (T : ℕ → Type 0) (level level' queue queue' : List ℕ) (n n' : ℕ) : Type 0 where
  pub fits : Queued level' queue' n'
  pub long : length level' ≡ length level
  pub more : n ≤ n'
  pub each : (q : ℕ) → (get_or level' q 0 ≡ get_or level q 0) ⊎ ((get_or level q 0 ≡ 0) × (get_or level' q 0 ≡ x + 1) × T q)
  pub kept : (i : ℕ) → i < n → get_or queue' i 0 ≡ get_or queue i 0
  pub fresh : (i : ℕ) → n ≤ i → i < n' → get_or level' (get_or queue' i 0) 0 ≡ x + 1

-- all states of T are reached
abbrev pub Covers : (ℕ → Type 0) → List ℕ → Type 0
Covers T level = (q : ℕ) → T q → 0 < get_or level q 0

-- all states of T that were not reached are taken in, and no others
pub record TakesAll (x : ℕ) (T : ℕ → Type 0) (level level' queue queue' : List ℕ) (n n' : ℕ) : Type 0 where
  pub takes : Takes x T level level' queue queue' n n'
  pub covers : Covers T level'

-- ---- the sets of states that loops go through

-- at some place from `from` up to `to`
pub record Between (from to : ℕ) (P : ℕ → ℕ → Type 0) (q : ℕ) : Type 0 where
  pub place : ℕ
  pub after : from ≤ place
  pub before : place < to
  pub is : P place q

-- `base` plus a number that stands in a list at such a place
abbrev pub InList : List ℕ → ℕ → ℕ → ℕ → ℕ → Type 0
InList list base from to = Between from to (λ i q. base + get_or list i 0 ≡ q)

-- the row of node p in adjacency lists
abbrev pub row_of : List ℕ → List ℕ → ℕ → List ℕ
row_of first targets p = slice_range targets (get_or first p 0) (get_or first (p + 1) 0)

-- the states at such places of the queue lead there
abbrev pub LeadsFrom : (ℕ → ℕ → Type 0) → List ℕ → ℕ → ℕ → ℕ → Type 0
LeadsFrom Lead queue from to = Between from to (λ i. Lead (get_or queue i 0))
