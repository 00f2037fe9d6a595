-- Writing evidence as a task for the tables of a model: what it asks of the slices that it holds, and what it leaves.
use Rattle.std.specs.Prelude.{◌≡◌, Result, length}
use Rattle.limits.specs.declared.refusal.Refusal.{Refusal}
use Rattle.model.specs.declared.Plan.{Plan}
use Rattle.graph.specs.States.{states}
use Rattle.call.specs.Scratch.{Scratch}
use Rattle.spelling.specs.Lays.{filled}
use Rattle.evidence_writer.specs.declared.Writing.{Writing}
use Rattle.evidence_writer.specs.declared.Written.{Written}
use Rattle.evidence_writer.specs.Written.{numbered, evidence_by, written_by}

abbrev pub Asks : Writing → Plan → Type 0
Asks w p = Scratch (states p.model) w.heights.now w.distance.now w.queue.now w.path.now

-- it holds the slices that it was given
pub record SameSlices (old new : Writing) : Type 0 where
  pub heights : new.heights.ghost_name ≡ old.heights.ghost_name
  pub distance : new.distance.ghost_name ≡ old.distance.ghost_name
  pub queue : new.queue.ghost_name ≡ old.queue.ghost_name
  pub path : new.path.ghost_name ≡ old.path.ghost_name
  pub out : new.out.ghost_name ≡ old.out.ghost_name

pub record Gives (old : Writing) (p : Plan) (new : Writing) (result : Result Written Refusal) : Type 0 where
  pub same : SameSlices old new
  pub verdict : numbered result ≡ written_by old.touch p.model (length old.out.now)
  pub written : new.out.now ≡ filled (evidence_by old.touch p.model) old.out.now
