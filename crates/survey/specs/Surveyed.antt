-- What is found about the states of a model, with touch steps or without.
use Rattle.std.specs.Prelude.{◌≡◌, Bool, true, false, List, ℕ, ◌+◌, ◌*◌, ◌<◌, length, get_or, ltb}
use Rattle.theory.specs.Below.{bit}
use Rattle.theory.specs.System.{on_closed_walk}
use Rattle.theory.specs.Height.{height}
use Rattle.theory.specs.WithoutTouch.{with_touch}
use Rattle.model.specs.declared.Model.{Model}
use Rattle.graph.specs.Plan.{system_of_model}
use Rattle.graph.specs.States.{states}
use Rattle.search.specs.Queue.{reached_count, ByLevel}
use Rattle.marking.specs.Tables.{Distances}

-- for each state twice its height, and one more where it lies on a closed walk of time and jump steps
pub record Heights (m : Model) (hs : List ℕ) : Type 0 where
  pub long : length hs ≡ states m
  pub are : (p : ℕ) → p < states m → get_or hs p 0 ≡ 2 * height (system_of_model m) p + bit (on_closed_walk (system_of_model m) p)

-- with touch steps heights and closed walks; without them nothing is asked yet, and all are at zero
pub record HeightsFor (touch : Bool) (m : Model) (hs : List ℕ) : Type 0 where
  pub long : length hs ≡ states m
  pub are : touch ≡ true → Heights m hs
  pub none : touch ≡ false → (p : ℕ) → get_or hs p 0 ≡ 0

-- that, and the distance of each state from the start
pub record Surveyed (touch : Bool) (m : Model) (hs ds : List ℕ) : Type 0 where
  pub heights : HeightsFor touch m hs
  pub distances : Distances (with_touch touch (system_of_model m)) ds

-- and the marked states level by level, each once
pub record Levelled (touch : Bool) (m : Model) (hs ds queue : List ℕ) : Type 0 where
  pub surveyed : Surveyed touch m hs ds
  pub order : ByLevel ds queue (reached_count ds)

-- heights found after a search: of the distances it is kept which states have one
pub record HeightsAdded (m : Model) (ds hs ds' : List ℕ) : Type 0 where
  pub heights : Heights m hs
  pub long : length ds' ≡ states m
  pub marks : (p : ℕ) → p < states m → ltb 0 (get_or ds' p 0) ≡ ltb 0 (get_or ds p 0)
