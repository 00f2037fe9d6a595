-- What drift does to a plan in the end: how slight a drift is harmless for ever if it is safe, how soon drift does harm if it is not.
use Rattle.std.specs.Prelude.{Bool, cond, ℕ}
use Rattle.theory.specs.Marked.{unsafe}
use Rattle.theory.specs.Sheet.{our_sheet}
use Rattle.model.specs.declared.Model.{Model}
use Rattle.graph.specs.Plan.{automaton_of, system_of_model}
use Rattle.robust.specs.Fringe.{sheet_margin}
use Rattle.trail_delay.specs.Ours.{our_delay}
use Rattle.outlook.specs.declared.Outlook.{Outlook}
use Rattle.outlook.specs.declared.Outlook.TheVariants.{Safe, Unsafe}

-- A, by our sheet: every drift below 1/A of a unit is harmless for ever
unfoldable pub our_margin : Model → ℕ
our_margin m = sheet_margin (automaton_of m) m.locations (our_sheet (system_of_model m))

-- The margin of a safe plan, or base and rate of an unsafe one: drift of 1/q or more does harm within base + rate · q jumps. Only one of the two is asked
-- for, harm or the margin; what is not asked for is 0.
unfoldable pub outlook_for : Bool → Model → Outlook
outlook_for harm m =
    cond (unsafe (system_of_model m)) (cond harm (Unsafe (our_delay m).base (our_delay m).rate) (Unsafe 0 0)) (cond harm (Safe 0) (Safe (our_margin m)))
