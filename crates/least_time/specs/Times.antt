-- Times from the start in an array: `level` holds one more than the least time of a state that is reached, and 0 for the others. The states reached in
-- y units stand in the queue from place lo on, first those that a wait led to, then those that jumps lead to from them.
use Rattle.std.specs.Prelude.{◌≡◌, true, List, ℕ, ◌+◌, ◌≤◌, ◌<◌, get_or}
use Rattle.theory.specs.Labels.{LabelledSystem}
use Rattle.theory.specs.Soonest.{jump_step, unit_step, Timed}
use Rattle.search.specs.Queue.{Takes, LeadsFrom}

-- ---- what the search finds

-- the least time of each state that some timed walk from the start reaches, plus one; 0 for the others
pub record Times (P : LabelledSystem) (level : List ℕ) : Type 0 where
  pub some : (p t : ℕ) → get_or level p 0 ≡ t + 1 → Timed P P.system.start p t
  pub least : (p t : ℕ) → Timed P P.system.start p t → (0 < get_or level p 0) × (get_or level p 0 ≤ t + 1)

-- ---- what a level adds

-- the states at level x are the places lo .. hi of the queue, those before them are below it
pub record Level (x lo hi : ℕ) (level queue : List ℕ) : Type 0 where
  pub low : (i : ℕ) → i < lo → get_or level (get_or queue i 0) 0 < x
  pub now : (i : ℕ) → lo ≤ i → i < hi → get_or level (get_or queue i 0) 0 ≡ x

-- by jumps, none or more, from a place lo .. hi of the queue
pub data Jumped (P : LabelledSystem) (queue : List ℕ) (lo hi : ℕ) : ℕ → Type 0 where
  place : (i : ℕ) → lo ≤ i → i < hi → Jumped P queue lo hi (get_or queue i 0)
  jump : {p q : ℕ} → Jumped P queue lo hi p → jump_step P p q ≡ true → Jumped P queue lo hi q

-- all that jumps lead to from the places lo .. hi is taken in at the same time, up to place hi'
pub record Closes (P : LabelledSystem) (y lo : ℕ) (level level' queue queue' : List ℕ) (hi hi' : ℕ) : Type 0 where
  pub takes : Takes y (Jumped P queue lo hi) level level' queue queue' hi hi'
  pub at : Level (y + 1) lo hi' level' queue'
  pub jumps : (i q : ℕ) → lo ≤ i → i < hi' → jump_step P (get_or queue' i 0) q ≡ true → 0 < get_or level' q 0

-- what a unit of waiting leads to from the places lo .. hi
abbrev pub Waited : LabelledSystem → List ℕ → ℕ → ℕ → ℕ → Type 0
Waited P = LeadsFrom (λ p q. unit_step P p q ≡ true)
