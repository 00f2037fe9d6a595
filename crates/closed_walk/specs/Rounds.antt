-- The search by rounds from a node q. It ends at the first level from which a step leads back to q.
use Rattle.std.specs.Prelude.{◌≡◌, Bool, ◌⊎◌, List, ℕ, ◌-◌, ◌≤◌, ◌<◌, length, get_or}
use Rattle.theory.specs.Walk.{dist}
use Rattle.theory.specs.Adjacency.{Adjacent}
use Rattle.search.specs.Queue.{ByLevel}
use Rattle.search.specs.Rounds.{Agrees}
use Rattle.search.specs.Flags.{Aims}

-- the fewest steps from q to a node that has a step to q: one less than those of a closed walk
abbrev pub back : ℕ → (ℕ → ℕ → Bool) → ℕ → ℕ
back S r q = dist S r (λ x. r x q) q

-- no node at these places has a step to q
abbrev pub NoneBack : List ℕ → List ℕ → ℕ → List ℕ → ℕ → ℕ → Type 0
NoneBack first targets q queue lo hi = (j : ℕ) → lo ≤ j → j < hi → Adjacent first targets (get_or queue j 0) q → ⊥

-- the search has ended at the level from which a step leads back: the nodes up to it are at the places below n
pub record Found (first targets : List ℕ) (q : ℕ) (level queue : List ℕ) (n : ℕ) : Type 0 where
  pub order : ByLevel level queue n
  pub some : 0 < n
  pub most : (p : ℕ) → p < length level → get_or level p 0 ≤ get_or level (get_or queue (n - 1) 0) 0
  pub aims : (r : ℕ → ℕ → Bool) → Agrees (length level) r q (Adjacent first targets)
      → Aims (Adjacent first targets) (λ z. Adjacent first targets z q) q (get_or level (get_or queue (n - 1) 0) 0) level r (λ p. r p q)

-- it has, or no step leads back from any node that is reached
abbrev pub Outcome : List ℕ → List ℕ → ℕ → List ℕ → List ℕ → ℕ → Type 0
Outcome first targets q level queue n =
    ((n ≡ 0) × ((r : ℕ → ℕ → Bool) → Agrees (length level) r q (Adjacent first targets) → length level ≤ back (length level) r q))
    ⊎ Found first targets q level queue n
