-- 02: the system of time, jump and face steps alone. Marked set, verdict, trails and their order are defined over any system, so they are there for
-- this one.
use Rattle.std.specs.Prelude.{Bool, true, false, ◌&&◌}
use Rattle.theory.specs.System.{System}
use Rattle.theory.specs.Labels.{LabelledSystem}
use Rattle.theory.specs.Replay.{Move, flow_by, face_to, touch_to}

-- touch steps as they are, or none
unfoldable pub with_touch : Bool → System → System
with_touch touch Y =
    record {
      size = Y.size;
      start = Y.start;
      allowed = Y.allowed;
      forbidden = Y.forbidden;
      flow = Y.flow;
      face = Y.face;
      near = λ p q. touch && Y.near p q;
    }

abbrev pub without_touch : System → System
without_touch = with_touch false

-- the same with labels
unfoldable pub labelled_with_touch : Bool → LabelledSystem → LabelledSystem
labelled_with_touch touch P = record { system = with_touch touch P.system; labels = P.labels; next = P.next }

abbrev pub labelled_without_touch : LabelledSystem → LabelledSystem
labelled_without_touch = labelled_with_touch false

-- a move that is no touch
unfoldable pub no_touch : Move → Bool
no_touch (flow_by x) = true
no_touch (face_to q) = true
no_touch (touch_to q xs) = false
