-- Our closed walk of a state that lies on one, by the states that it comes to. 01, of our trail: "Its walks are chosen alike."
use Rattle.std.specs.Prelude.{List, ℕ, eqb}
use Rattle.theory.specs.Walk.{dist⁺, greedy}
use Rattle.theory.specs.System.{System}

-- the fewest time and jump steps, one or more, from q back to q
unfoldable pub closed_walk_steps : System → ℕ → ℕ
closed_walk_steps Y q = dist⁺ Y.size Y.flow (λ x. eqb x q) q

-- of the closed walks with so many steps, the least in state numbers
unfoldable pub closed_walk : System → ℕ → List ℕ
closed_walk Y q = greedy Y.size Y.flow (λ x. eqb x q) (closed_walk_steps Y q) q
