-- What the pass is given and what it promises.
use Rattle.std.specs.Prelude.{◌≡◌, List, ℕ, suc, ◌+◌, ◌*◌, ◌≤◌, ◌<◌, length, get_or}
use Rattle.theory.specs.Below.{bit}
use Rattle.theory.specs.System.{System, Laws, on_closed_walk}
use Rattle.theory.specs.Height.{height}
use Rattle.theory.specs.Adjacency.{Holds}
use Rattle.limits.specs.Limits.{max_states, max_steps}

-- the lists of some graph on the nodes below n
pub record GraphLists (first targets : List ℕ) (n : ℕ) : Type 0 where
  pub small : n ≤ max_states
  pub few : get_or first n 0 ≤ max_steps
  pub long : length first ≡ suc n
  pub ascends : (p : ℕ) → p < n → get_or first p 0 ≤ get_or first (suc p) 0
  pub ends : get_or first n 0 ≤ length targets
  pub below : (i : ℕ) → i < get_or first n 0 → get_or targets i 0 < n

-- Where the lists hold the time and jump steps of a system, a state's mark is twice its height, and one more if it lies on a closed walk of
-- time and jump steps.
pub record Marks (first targets : List ℕ) (n : ℕ) (mark : List ℕ) : Type 0 where
  pub are : (Y : System) → Laws Y → Y.size ≡ n → Holds first targets n Y.flow
      → (p : ℕ) → p < n → get_or mark p 0 ≡ 2 * height Y p + bit (on_closed_walk Y p)
