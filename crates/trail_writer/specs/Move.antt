-- A step of our trail by its kind, as the code finds it.
use Rattle.std.specs.Prelude.{◌≡◌, ⊤, true, ℕ, ◌≤◌}
use Rattle.theory.specs.System.{on_closed_walk}
use Rattle.theory.specs.Labels.{closed_walk_labels}
use Rattle.theory.specs.Replay.{Move, flow_by, face_to, touch_to}
use Rattle.model.specs.declared.Model.{Model}
use Rattle.graph.specs.Plan.{system_of_model, labelled_of_model}
use Rattle.trail_numbers.specs.Numbers.{label_number}
use Rattle.trail_writer.specs.declared.kind.Kind.{Kind}
use Rattle.trail_writer.specs.declared.kind.Kind.TheVariants.{Flow, Face, Touch}

-- the move of that kind to q
abbrev pub move_by : Model → ℕ → Kind → Move
move_by m q (Flow x) = flow_by (label_number x)
move_by m q Face = face_to q
move_by m q Touch = touch_to q (closed_walk_labels (labelled_of_model m) q)

-- a label is one of the model's, and what is touched lies on a closed walk
abbrev pub Sound : Model → ℕ → Kind → Type 0
Sound m q (Flow x) = label_number x ≤ m.edges
Sound m q Face = ⊤
Sound m q Touch = on_closed_walk (system_of_model m) q ≡ true
