-- Adjacency lists in the making, row by row. A row is what stands in `targets` from one place up to another.
use Rattle.std.specs.Prelude.{ℕ, suc, ◌+◌, ◌≤◌, ◌<◌, ◌≡◌, Bool, true, ◌↔◌, List, length, get_or}
use Rattle.theory.specs.Adjacency.{Adjacent}

-- q stands in a list, from place a up to place b
pub record Stands (targets : List ℕ) (a b q : ℕ) : Type 0 where
  pub place : ℕ
  pub after : a ≤ place
  pub before : place < b
  pub is : get_or targets place 0 ≡ q

-- the numbers of T, and no others, are put from place n on; they take at most k places
pub record Puts (k : ℕ) (T : ℕ → Type 0) (targets targets' : List ℕ) (n n' : ℕ) : Type 0 where
  pub long : length targets' ≡ length targets
  pub more : n ≤ n'
  pub most : n' ≤ n + k
  pub kept : (i : ℕ) → i < n → get_or targets' i 0 ≡ get_or targets i 0
  pub just : (q : ℕ) → Stands targets' n n' q ↔ T q

-- of a relation on the nodes below s, two lists hold the rows of the nodes below p, in the first n places: `Holds`, so far
pub record HoldsBelow (first targets : List ℕ) (s : ℕ) (r : ℕ → ℕ → Bool) (p n : ℕ) : Type 0 where
  pub long : length first ≡ suc s
  pub here : get_or first p 0 ≡ n
  pub within : (k : ℕ) → k ≤ p → get_or first k 0 ≤ n
  pub ascends : (k : ℕ) → k < p → get_or first k 0 ≤ get_or first (suc k) 0
  pub below : (i : ℕ) → i < n → get_or targets i 0 < s
  pub edges : (k q : ℕ) → k < p → Adjacent first targets k q ↔ (r k q ≡ true)
