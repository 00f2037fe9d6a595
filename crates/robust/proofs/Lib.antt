-- Laws, file by file; then the theorems.

-- Waits, ceilings and top ranks.
pub mod Clocks
-- No jump leads where time does.
pub mod TimeOrJump
-- Exact moves in half units go through regions by time and jump steps.
pub mod Half
-- Whole points and the region half way between them.
pub mod Corner
-- More numbers below S than S: some number occurs twice.
pub mod Pigeon
-- The rounded points of a widened run, and shifts that are good for its last entries.
pub mod Spot
pub mod Window
-- The entries at half values, numbered.
pub mod Entries
-- The points half way between two roundings of a run.
pub mod Middle
-- What holds of the rounded points of every run, by induction over its jumps.
pub mod Induction
-- Safe for ever, by the entries of the drawing.
pub mod Forever
-- Time and jump steps lift to exact moves between corners.
pub mod Lift
-- Widened runs that drift from one exact run towards another along the same edges.
pub mod Blend
-- Which edges can open.
pub mod Opening
-- Closed walks: their corners, and that they reset each clock.
pub mod Loop
-- Safe for ever, by ranks of the states with a corner that is in and a corner that is out.
pub mod Ranked
-- With any drift at all each corner of each marked state is reached.
pub mod Drift
-- How soon drift does harm, by a trail.
pub mod Delay
-- The verdict is right in both directions.
pub mod Verdict
-- One margin that serves every model of 01.
pub mod Margin
-- A test that shows that closed walks reset each clock.
pub mod Accept
-- The loop plan of the bench, both ways.
pub mod LoopPlan
-- Both hypotheses are needed: the rule on resets, and touch.
pub mod Unreset
pub mod Untouched
-- Joint resets need no touch: on locations and regions, and on numbered states.
pub mod Joint
pub mod WithoutTouch
-- The fringe of a sheet and the walks through it.
pub mod Fringe
-- Safe for ever, by a sheet.
pub mod SheetMargin
