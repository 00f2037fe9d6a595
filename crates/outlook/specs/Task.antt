-- Looking as a task for the tables of a model: what it asks of the slices that it holds, and what it answers.
use Rattle.std.specs.Prelude.{◌≡◌}
use Rattle.model.specs.declared.Plan.{Plan}
use Rattle.graph.specs.States.{states}
use Rattle.call.specs.Scratch.{Scratch}
use Rattle.outlook.specs.declared.Looking.{Looking}
use Rattle.outlook.specs.declared.Outlook.{Outlook}
use Rattle.outlook.specs.Outlook.{outlook_for}

abbrev pub Asks : Looking → Plan → Type 0
Asks l p = Scratch (states p.model) l.heights.now l.distance.now l.queue.now l.path.now

-- it holds the slices that it was given
pub record SameSlices (old new : Looking) : Type 0 where
  pub heights : new.heights.ghost_name ≡ old.heights.ghost_name
  pub distance : new.distance.ghost_name ≡ old.distance.ghost_name
  pub queue : new.queue.ghost_name ≡ old.queue.ghost_name
  pub path : new.path.ghost_name ≡ old.path.ghost_name

pub record Gives (old : Looking) (p : Plan) (new : Looking) (result : Outlook) : Type 0 where
  pub same : SameSlices old new
  pub answer : result ≡ outlook_for old.harm p.model
