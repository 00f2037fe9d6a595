-- The search as a task for the tables of a model: what it asks of the slices that it holds, and what it leaves in them.
use Rattle.std.specs.Prelude.{◌≡◌, ℕ}
use Rattle.theory.specs.Rounds.{rounds}
use Rattle.theory.specs.WithoutTouch.{with_touch}
use Rattle.model.specs.declared.Plan.{Plan}
use Rattle.graph.specs.Plan.{system_of_model}
use Rattle.graph.specs.States.{states}
use Rattle.call.specs.Scratch.{Scratch}
use Rattle.survey.specs.declared.Surveying.{Surveying}
use Rattle.survey.specs.Surveyed.{Levelled}

abbrev pub Asks : Surveying → Plan → Type 0
Asks s p = Scratch (states p.model) s.heights.now s.distance.now s.queue.now s.spare.now

-- it holds the slices that it was given
pub record SameSlices (old new : Surveying) : Type 0 where
  pub heights : new.heights.ghost_name ≡ old.heights.ghost_name
  pub distance : new.distance.ghost_name ≡ old.distance.ghost_name
  pub queue : new.queue.ghost_name ≡ old.queue.ghost_name
  pub spare : new.spare.ghost_name ≡ old.spare.ghost_name

pub record Gives (old : Surveying) (p : Plan) (new : Surveying) (result : ℕ) : Type 0 where
  pub same : SameSlices old new
  pub levelled : Levelled old.touch p.model new.heights.now new.distance.now new.queue.now
  pub counted : result ≡ rounds (with_touch old.touch (system_of_model p.model))
