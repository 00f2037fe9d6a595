-- The search by rounds from a start. `Lead p q` says, by lists alone, that p leads to q.
use Rattle.std.specs.Prelude.{◌≡◌, Bool, true, List, ℕ, ◌+◌, ◌≤◌, ◌<◌, length, get_or}
use Rattle.theory.specs.Walk.{Inside}
use Rattle.theory.specs.Levels.{distance_to, FoundBelow}
use Rattle.search.specs.Queue.{Queued}

-- a relation on the states below S that the lists lead along, as far as the start leads
pub record Agrees (S : ℕ) (r : ℕ → ℕ → Bool) (start : ℕ) (Lead : ℕ → ℕ → Type 0) : Type 0 where
  pub inside : Inside S r
  pub begins : start < S
  pub to : (p q : ℕ) → distance_to S r start p < S → Lead p q → r p q ≡ true
  pub from : (p q : ℕ) → r p q ≡ true → Lead p q

-- the distances below x are found, and the states at x stand in the queue from lo up to its end hi
pub record Searched (Lead : ℕ → ℕ → Type 0) (start x lo hi : ℕ) (level queue : List ℕ) : Type 0 where
  pub fits : Queued level queue hi
  pub sorted : (i j : ℕ) → i ≤ j → j < hi → get_or level (get_or queue i 0) 0 ≤ get_or level (get_or queue j 0) 0
  pub some : 1 ≤ x
  pub early : x ≤ lo + 1
  pub ends : lo ≤ hi
  pub low : (i : ℕ) → i < lo → get_or level (get_or queue i 0) 0 < x
  pub now : (i : ℕ) → lo ≤ i → i < hi → get_or level (get_or queue i 0) 0 ≡ x
  -- the round before this one went over the level before this one
  pub past : (i : ℕ) → i + 1 ≡ lo → get_or level (get_or queue i 0) 0 + 1 ≡ x
  pub upto : (r : ℕ → ℕ → Bool) → Agrees (length level) r start Lead → FoundBelow (length level) r start x (λ p. get_or level p 0)
