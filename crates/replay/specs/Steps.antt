-- Steps as the code replays them, and the part of the bytes that spells a walk.
use Rattle.std.specs.Prelude.{ℕ, zero, suc, ◌-◌, Bool, cond, ◌&&◌, List, length, take, drop, leb, Option, Some, None, Result, Ok, Err}
use Rattle.limits.specs.declared.refusal.Refusal.{Refusal}
use Rattle.limits.specs.Refusal.{code_of}
use Rattle.theory.specs.Region.{Clock, lawful}
use Rattle.limits.specs.Limits.{max_clocks, max_ceiling}
use Rattle.number.specs.Number.{on_number}
use Rattle.trail_numbers.specs.declared.Step.{Step}
use Rattle.trail_numbers.specs.declared.Step.TheVariants.{Time, Jump, Face, Touch}
use Rattle.trail_numbers.specs.Numbers.{label_at}
use Rattle.model.specs.declared.Model.{Model}
use Rattle.region.specs.declared.Region.{Region}
use Rattle.region.specs.View.{view}
use Rattle.replay.specs.Trail.{Reached, At, Refused, flow_to, state_beside, face_step_to, touch_step_to}

-- ---- replaying

-- what the code reaches, its refusal by number
abbrev pub numbered_reached : Result (ℕ × ℕ) Refusal → Reached
numbered_reached (Ok v) = At v.0 v.1
numbered_reached (Err r) = Refused (code_of r)

-- the refusal, 0 where a state was reached
abbrev pub reached_refusal : Reached → ℕ
reached_refusal (At q p) = 0
reached_refusal (Refused r) = r

abbrev pub go_to : Option ℕ → ℕ → Reached
go_to (Some q) at = At q at
go_to None at = Refused 13

-- whole parts and ranks that some region has
abbrev pub is_small : Region → Bool
is_small g =
    (leb g.w1 max_ceiling && (leb g.w2 max_ceiling && leb g.w3 max_ceiling))
    && (leb g.r1 max_clocks && (leb g.r2 max_clocks && leb g.r3 max_clocks))

-- the state of a region at the location of p, allowed or not
unfoldable pub look_up : Model → ℕ → List Clock → Option ℕ
look_up m p xs = cond (lawful m.clocks m.ceiling xs) (Some (state_beside m p xs)) None

unfoldable pub step_to : Model → List ℕ → Step → ℕ → ℕ → Reached
step_to m bs Time p at = flow_to m 0 p at
step_to m bs (Jump e) p at = flow_to m (suc e) p at
step_to m bs (Face g) p at = face_step_to m p (view m.clocks g) at
step_to m bs (Touch g) p at = touch_step_to m bs p (view m.clocks g) at

-- ---- the walk of a touch

-- where k steps of a walk end; the end of the bytes where they spell no such steps
unfoldable pub steps_end : List ℕ → ℕ → ℕ → ℕ
steps_end bs zero at = at
steps_end bs (suc k) at = on_number (label_at bs at) (λ x to. steps_end bs k to) (λ r. length bs)

-- "The replay gets the walk as a part of the caller's own bytes": the part that spells these steps
abbrev pub walk_part : List ℕ → ℕ → ℕ → List ℕ
walk_part bs k at = take (steps_end bs k at - at) (drop at bs)
