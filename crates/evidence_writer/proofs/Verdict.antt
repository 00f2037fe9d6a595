-- The verdict from the distances, and what the search for the trail is to be given, with touch steps or without.
use Prim.Native.Nat.{ℕ, ◌*◌, ◌≤◌, ◌<◌}
use native.Mathlib.Omega.{arith}
use mathlib.Core.Path.{◌≡◌, refl, sym, ◌∙◌}
use mathlib.Core.Bool.{Bool, true, false}
use mathlib.Core.List.{List}
use lib.ListN.{length}
use borrow.Author.Tests.{lt-ltb, le-ltb}
use Rattle.graph.proofs.Plan.{size-states}
use Rattle.limits.specs.Limits.{point_count}
use Rattle.theory.specs.System.{System, Laws}
use Rattle.theory.specs.Marked.{unsafe}
use Rattle.theory.specs.Trail.{trail_steps}
use Rattle.theory.specs.Region.{regions}
use Rattle.theory.specs.WithoutTouch.{with_touch}
use Rattle.theory.proofs.Trail.{steps_verdict}
use Rattle.theory.proofs.WithoutTouch.{touch_laws}
use Rattle.model.specs.declared.Model.{Model}
use Rattle.graph.specs.Plan.{system_of_model}
use Rattle.graph.specs.States.{states}
use Rattle.graph.proofs.Models.{system_laws}
use Rattle.search.specs.Queue.{reached_count, ByLevel}
use Rattle.marking.specs.Tables.{SearchTables, Distances, Forbids}
use Rattle.call.specs.Scratch.{Scratch}
use Rattle.survey.specs.Surveyed.{Surveyed}
use Rattle.survey.proofs.Tables.{asked, tables_for}
use Rattle.survey.proofs.Forbidden.{kinds, forbids_by}
use Rattle.trail_states.specs.Told.{Told}
use Rattle.evidence_writer.specs.Searched.{Searched}

pub distance_long : {touch : Bool} {m : Model} {heights distance : List ℕ} → Surveyed touch m heights distance → length distance ≡ states m
unfolding with_touch
distance_long {m = m} S = S.distances.long ∙ size-states m

module _ {touch : Bool} {m : Model} {table first targets shapes heights distance queue path : List ℕ}
    (K : Searched touch m table first targets shapes heights distance queue path) where
  abbrev Y : System
  Y = with_touch touch (system_of_model m)

  its_laws : Laws Y
  its_laws = touch_laws touch (system_of_model m) (system_laws m K.lawful)

  pub scratch_of : Scratch (states m) heights distance queue path
  scratch_of =
      record {
        first = K.levelled.surveyed.heights.long;
        second = distance_long K.levelled.surveyed;
        third = K.queue_long;
        fourth = K.path_long;
      }

  module _ (steps : ℕ) (s : steps ≡ trail_steps Y) where
    pub unsafe_by : steps < length distance → unsafe Y ≡ true
    unsafe_by b = steps_verdict Y its_laws ∙ lt-ltb (trail_steps Y) Y.size (omega (arith, K.levelled.surveyed.distances.long))

    pub safe_by : length distance ≤ steps → unsafe Y ≡ false
    safe_by b = steps_verdict Y its_laws ∙ le-ltb (trail_steps Y) Y.size (omega (arith, K.levelled.surveyed.distances.long))

  module _ (r : ℕ) (e : r ≡ length (regions m.clocks m.ceiling)) (steps : ℕ) where
    -- the fewest steps into a forbidden location
    pub steps_by : ((Z : System) → Laws Z → Distances Z distance → Forbids Z r m.kind → steps ≡ trail_steps Z) → steps ≡ trail_steps Y
    steps_by f = f Y its_laws K.levelled.surveyed.distances (forbids_by m K.lawful touch r e)

    -- are fewer than there are states
    pub few_by : ((Z : System) → Laws Z → Distances Z distance → Forbids Z r m.kind → steps < length distance) → steps < length distance
    few_by f = f Y its_laws K.levelled.surveyed.distances (forbids_by m K.lawful touch r e)

    -- what the search for the trail's states asks
    pub trail_asked : steps < length distance
        → (steps < length distance) × (m.start * r < length distance) × (steps ≤ length path) × (length distance ≤ length m.kind * r)
        × ByLevel distance queue (reached_count distance) × SearchTables touch (length distance) r first targets shapes heights
    trail_asked h =
        let Q = asked m K.lawful first targets K.flow shapes heights K.by_region K.levelled.surveyed.heights r e
        distance queue (m.locations * point_count) (distance_long K.levelled.surveyed) K.queue_long refl in
        let k = kinds m K.lawful touch distance r K.levelled.surveyed.distances e in
        (h, Q.0, omega (arith, K.path_long, distance_long K.levelled.surveyed), k.1, K.levelled.order, Q.2)

    -- and what it is told
    pub trail_told : steps ≡ trail_steps Y → Told Y steps (m.start * r) r first targets shapes heights m.kind distance
    trail_told s = record {
      laws = its_laws;
      size = sym K.levelled.surveyed.distances.long;
      tables = tables_for m K.lawful first targets K.flow shapes heights K.by_region K.levelled.surveyed.heights r e;
      distances = K.levelled.surveyed.distances;
      forbids = forbids_by m K.lawful touch r e;
      fewest = s;
    }
