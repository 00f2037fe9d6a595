-- Request (d) of 02: the marking of a plan by rounds, as its search leaves it.
use Rattle.std.specs.Prelude.{◌≡◌, List, ℕ, ◌≤◌, ◌<◌, get_or}
use Rattle.theory.specs.Below.{Counted}
use Rattle.theory.specs.Automaton.{Automaton}
use Rattle.theory.specs.StateGraph.{location_of, region_of}
use Rattle.theory.specs.Rounds.{NewAfter, Rounds, StepOn, start_on}
use Rattle.demands.specs.Told.{MarkedAt}

-- r rounds mark the states of a plan
abbrev pub PlanRounds : Automaton → ℕ → Type 0
PlanRounds a = Rounds (StepOn a) (start_on a)

-- the state with number p is new after k rounds, so that round k + 1 goes over it
abbrev pub NewAt : Automaton → ℕ → ℕ → Type 0
NewAt a k p = NewAfter (StepOn a) (start_on a) k (location_of a p, region_of a p)

-- What the marking of a plan with S states leaves: n of them are marked, in r rounds, and the rounds went over the first n places of `queue`.
pub record MarkedByRounds (a : Automaton) (S n r : ℕ) (queue : List ℕ) : Type 0 where
  pub marked : Counted (MarkedAt a) S n
  -- "the rounds are counted"
  pub rounds : PlanRounds a r
  -- "at most as many rounds as there are marked states"
  pub few : r ≤ n
  -- at each place stands a state that a round goes over, and every marked state has a place
  pub round : (i : ℕ) → i < n → (k : ℕ) × (k < r) × NewAt a k (get_or queue i 0)
  pub place : (p : ℕ) → p < S → MarkedAt a p → (i : ℕ) × (i < n) × (get_or queue i 0 ≡ p)
  -- "A round goes over each state at most once": no state stands twice, so all rounds together do,
  pub once : (i j : ℕ) → i < j → j < n → get_or queue i 0 ≡ get_or queue j 0 → ⊥
  -- and the states of a round stand together, behind those of the rounds before it
  pub in_order : (i j k l : ℕ) → i ≤ j → j < n → NewAt a k (get_or queue i 0) → NewAt a l (get_or queue j 0) → k ≤ l
