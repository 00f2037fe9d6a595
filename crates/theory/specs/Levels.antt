-- Distances from a node, and what a search by levels keeps of them in numbers: one more than the distance, or 0 for a node that no walk reaches.
use Rattle.std.specs.Prelude.{◌≡◌, Bool, true, cond, ◌⊎◌, ℕ, ◌+◌, ◌≤◌, ◌<◌, eqb, ltb}
use Rattle.theory.specs.Walk.{dist}

-- the fewest steps from a to p, or S
unfoldable pub distance_to : ℕ → (ℕ → ℕ → Bool) → ℕ → ℕ → ℕ
distance_to S r a p = dist S r (λ x. eqb x p) a

-- one more than the fewest steps, or 0 if there are none
unfoldable pub mark : ℕ → (ℕ → ℕ → Bool) → ℕ → ℕ → ℕ
mark S r a p = let d = distance_to S r a p in cond (ltb d S) (d + 1) 0

-- the distances below x are found
pub record FoundBelow (S : ℕ) (r : ℕ → ℕ → Bool) (a x : ℕ) (f : ℕ → ℕ) : Type 0 where
  pub near : (p : ℕ) → p < S → distance_to S r a p < x → distance_to S r a p < S → f p ≡ distance_to S r a p + 1
  pub rest : (p : ℕ) → p < S → x ≤ distance_to S r a p → f p ≡ 0
  pub out : (p : ℕ) → p < S → S ≤ distance_to S r a p → f p ≡ 0

-- a round at x: just the nodes at 0 that a step leads to from a node at x get x + 1
pub record Grown (S : ℕ) (r : ℕ → ℕ → Bool) (x : ℕ) (f g : ℕ → ℕ) : Type 0 where
  pub each : (q : ℕ) → q < S → (g q ≡ f q) ⊎ ((f q ≡ 0) × (g q ≡ x + 1) × ((p : ℕ) × (p < S) × (f p ≡ x) × (r p q ≡ true)))
  pub all : (p q : ℕ) → p < S → q < S → f p ≡ x → r p q ≡ true → 0 < g q

-- d: the least distance of a goal among the nodes below i, or S
pub record Fewest (S : ℕ) (goal : ℕ → Bool) (f : ℕ → ℕ) (i d : ℕ) : Type 0 where
  pub least : (p : ℕ) → p < i → goal p ≡ true → 0 < f p → d + 1 ≤ f p
  pub some : (d ≡ S) ⊎ ((p : ℕ) × (p < S) × (goal p ≡ true) × (f p ≡ d + 1))
