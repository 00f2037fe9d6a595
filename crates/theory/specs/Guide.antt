-- The least of the shortest walks from a node into a goal, by distances: a pass from the last level down finds the nodes of the shortest walks
-- (`good`), and each step takes the least of these at the next level. A node at distance d keeps d + 1, and d + 1 + flag where it is good; flag is
-- more than any distance.
use Rattle.std.specs.Prelude.{◌≡◌, Bool, true, false, ◌&&◌, List, ◌++◌, ℕ, ◌+◌, ◌-◌, ◌≤◌, ◌<◌, take, eqb, leb}
use Rattle.theory.specs.Below.{least}
use Rattle.theory.specs.Walk.{exact, dist, greedy}
use Rattle.theory.specs.Levels.{distance_to}

-- p lies on a shortest walk from a into a goal
unfoldable pub good : ℕ → (ℕ → ℕ → Bool) → (ℕ → Bool) → ℕ → ℕ → Bool
good S r goal a p = let K = dist S r goal a in let d = distance_to S r a p in leb d K && exact S r goal (K - d) p

-- the least node at y that an edge leads to from p, or S
unfoldable pub next : ℕ → (ℕ → ℕ → Bool) → ℕ → (ℕ → ℕ) → ℕ → ℕ
next S r y f p = least S (λ q. eqb (f q) y && r p q)

-- the good nodes have the flag, the others have not
pub record Flagged (S flag : ℕ) (r : ℕ → ℕ → Bool) (goal : ℕ → Bool) (a : ℕ) (f : ℕ → ℕ) : Type 0 where
  pub done : (p : ℕ) → p < S → good S r goal a p ≡ true → f p ≡ distance_to S r a p + 1 + flag
  pub none : (p : ℕ) → p < S → good S r goal a p ≡ false → f p < flag

-- after i of the K steps of the least shortest walk, at p, with the nodes so far in l
pub record Along (S : ℕ) (r : ℕ → ℕ → Bool) (goal : ℕ → Bool) (a K : ℕ) (l : List ℕ) (i p : ℕ) : Type 0 where
  pub many : i ≤ K
  pub node : p < S
  pub level : distance_to S r a p ≡ i
  pub left : exact S r goal (K - i) p ≡ true
  pub whole : take i l ++ greedy S r goal (K - i) p ≡ greedy S r goal K a
