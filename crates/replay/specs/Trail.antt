-- The answer of a trail: "trail numbers and steps in order by 1, 2, 13, then 6, 14. 13 comes as soon as a bad kind, edge or count is read, or
-- the last number of a bad region; for a walk that doesn't close, after its last step." 02 (b) has 15 just after 2. p, q are states; `at` is an offset.
use Rattle.std.specs.Prelude.{ℕ, zero, suc, cond, ◌&&◌, List, length, ltb, eqb}
use Rattle.theory.specs.Region.{Region, clocks, lawful}
use Rattle.theory.specs.StateGraph.{location_of, number_of}
use Rattle.theory.specs.Labels.{opens}
use Rattle.number.specs.Number.{on_number}
use Rattle.evidence_number.specs.Evidence.{read_evidence}
use Rattle.evidence_number.specs.Numbers.{on_numbers}
use Rattle.trail_numbers.specs.Numbers.{label_at, numbers_at}
use Rattle.model.specs.declared.Model.{Model}
use Rattle.graph.specs.Plan.{automaton_of, system_of_model, labelled_of_model}

-- a state that was reached and the offset after what was read, or the refusal
pub data Reached : Type 0 where
  At : ℕ → ℕ → Reached
  Refused : ℕ → Reached

abbrev pub on_reached : {A : Type 0} → Reached → (ℕ → ℕ → A) → (ℕ → A) → A
on_reached (At q at) go stop = go q at
on_reached (Refused r) go stop = stop r

-- k steps, each from the state and the offset that the one before came to
unfoldable pub run : (ℕ → ℕ → Reached) → ℕ → ℕ → ℕ → Reached
run step zero p at = At p at
run step (suc k) p at = on_reached (step p at) (run step k) Refused

-- ---- time and jump

-- the step with a label: 0 is time, e + 1 the jump along edge e
unfoldable pub flow_to : Model → ℕ → ℕ → ℕ → Reached
flow_to m x p at = cond (opens (labelled_of_model m) x p) (At ((labelled_of_model m).next x p) at) (Refused 13)

-- ---- the closed walk of a touch: "a count of at least 1, then a closed walk from that region made of kinds 0 and 1"

unfoldable pub walk_step : Model → List ℕ → ℕ → ℕ → Reached
walk_step m bs p at = on_number (label_at bs at) (λ x to. flow_to m x p to) Refused

unfoldable pub closed_walk : Model → List ℕ → ℕ → ℕ → Reached
closed_walk m bs q at =
    on_number (read_evidence bs at) (λ k to.
    cond (eqb k 0) (Refused 13)
    (on_reached (run (walk_step m bs) k q to) (λ p end. cond (eqb p q) (At q end) (Refused 13)) Refused))
    Refused

-- ---- face and touch

-- "w1..wn, r1..rn"; its single numbers are judged by 1, 2 and 15 only
abbrev pub on_region : {A : Type 0} → ℕ → List ℕ → ℕ → (Region → ℕ → A) → (ℕ → A) → A
on_region n bs at go stop =
    on_numbers (numbers_at bs n at) (λ ws to.
    on_numbers (numbers_at bs n to) (λ rs end. go (clocks ws rs) end)
    stop) stop

-- the number of the state of a region at the location of p, where there is such a region
abbrev pub state_beside : Model → ℕ → Region → ℕ
state_beside m p xs = number_of (automaton_of m) (location_of (automaton_of m) p) xs

-- a region is bad that is unlawful, not allowed, or no face
unfoldable pub face_step_to : Model → ℕ → Region → ℕ → Reached
face_step_to m p xs at =
    let q = state_beside m p xs in
    cond (lawful m.clocks m.ceiling xs && (system_of_model m).face p q) (At q at) (Refused 13)

-- a region is bad that is unlawful, not allowed, or shares no corner with the present one; then comes the walk
unfoldable pub touch_step_to : Model → List ℕ → ℕ → Region → ℕ → Reached
touch_step_to m bs p xs at =
    let q = state_beside m p xs in
    cond (lawful m.clocks m.ceiling xs && (system_of_model m).near p q) (closed_walk m bs q at) (Refused 13)

-- ---- the trail

-- "0 time; 1 jump, edge number; 2 face, w1..wn, r1..rn; 3 touch, the region likewise": what follows a kind; one above 3 is bad at once
abbrev pub kind_step : Model → List ℕ → ℕ → ℕ → ℕ → Reached
kind_step m bs p kind at =
    cond (eqb kind 0) (flow_to m 0 p at)
    (cond (eqb kind 1) (on_number (read_evidence bs at) (λ e to. flow_to m (suc e) p to) Refused)
    (cond (eqb kind 2) (on_region m.clocks bs at (face_step_to m p) Refused)
    (cond (eqb kind 3) (on_region m.clocks bs at (touch_step_to m bs p) Refused)
    (Refused 13))))

unfoldable pub trail_step : Model → List ℕ → ℕ → ℕ → Reached
trail_step m bs p at = on_number (read_evidence bs at) (kind_step m bs p) Refused

-- 0 or the refusal, of the bytes from an offset on: "a step count, then steps, the first one from the start"
unfoldable pub trail_answer : Model → List ℕ → ℕ → ℕ
trail_answer m bs at =
    on_number (read_evidence bs at) (λ k to.
    on_reached (run (trail_step m bs) k (system_of_model m).start to) (λ p end.
    cond (ltb end (length bs)) 6 (cond ((system_of_model m).forbidden p) 0 14))
    (λ r. r)) (λ r. r)
