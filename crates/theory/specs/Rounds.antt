-- 02 (d): the marking by rounds, over any states and steps.
use Rattle.std.specs.Prelude.{ℕ, suc, ◌<◌}
use Rattle.theory.specs.Below.{top}
use Rattle.theory.specs.System.{System}
use Rattle.theory.specs.Marked.{step}
use Rattle.theory.specs.Automaton.{Automaton}
use Rattle.theory.specs.Region.{Region}
use Rattle.theory.specs.RegionGraph.{origin}
use Rattle.theory.specs.Levels.{mark}
use Rattle.theory.specs.RegionGraph as graph

-- ---- what is meant

-- marked after so many rounds: at first the start and no other state; a round adds what one step leads to from a state marked before it
pub data MarkedAfter {A : Type 0} (Step : A → A → Type 0) (start : A) : ℕ → A → Type 0 where
  begin : MarkedAfter Step start 0 start
  kept : {k : ℕ} {s : A} → MarkedAfter Step start k s → MarkedAfter Step start (suc k) s
  added : {k : ℕ} {s t : A} → MarkedAfter Step start k s → Step s t → MarkedAfter Step start (suc k) t

-- New after k rounds: marked then, and not after fewer. A state is new once. Round k + 1 goes over the states that are new after k, "each .. at most
-- once": older ones have nothing to add (`new_from`).
pub record NewAfter {A : Type 0} (Step : A → A → Type 0) (start : A) (k : ℕ) (s : A) : Type 0 where
  pub marked : MarkedAfter Step start k s
  pub not_before : (j : ℕ) → j < k → MarkedAfter Step start j s → ⊥

-- "the rounds are counted": r of them are made if each has a state to go over and then none is left. So the last one, which adds nothing, counts.
pub record Rounds {A : Type 0} (Step : A → A → Type 0) (start : A) (r : ℕ) : Type 0 where
  pub each : (k : ℕ) → k < r → (s : A) × NewAfter Step start k s
  pub done : (s : A) → NewAfter Step start r s → ⊥

-- the four steps on 01's states, a location with a region
abbrev pub StepOn : Automaton → (ℕ × Region) → (ℕ × Region) → Type 0
StepOn m s t = graph.Step m s.0 s.1 t.0 t.1

abbrev pub start_on : Automaton → ℕ × Region
start_on m = (m.start, origin m)

-- ---- what computes it

-- `Rounds`: one more than the greatest distance of a marked state from the start
unfoldable pub rounds : System → ℕ
rounds Y = top Y.size (mark Y.size (step Y) Y.start)
