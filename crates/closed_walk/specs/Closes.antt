-- The closed walk that is found.
use Rattle.std.specs.Prelude.{◌≡◌, Bool, List, ℕ, ◌≤◌, ◌<◌, take, eqb}
use Rattle.theory.specs.Walk.{dist⁺, greedy}

-- 01: "A closed walk has one or more edges (or steps) and ends at its beginning". If one leads from q back to q: the fewest steps of such a walk, and
-- in the first places of `path` the nodes that it comes to, of the walks with so few steps the least; otherwise no steps.
pub record Closes (S : ℕ) (r : ℕ → ℕ → Bool) (q steps : ℕ) (path : List ℕ) : Type 0 where
  pub fewest : dist⁺ S r (λ x. eqb x q) q ≤ S → steps ≡ dist⁺ S r (λ x. eqb x q) q
  pub least : dist⁺ S r (λ x. eqb x q) q ≤ S → take steps path ≡ greedy S r (λ x. eqb x q) steps q
  pub none : S < dist⁺ S r (λ x. eqb x q) q → steps ≡ 0
