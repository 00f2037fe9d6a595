-- What drift can and cannot do to a plan, however long it runs. The definitions of `theory` come first: automata and their widened runs, the
-- marked set and its verdict, sheets and trails.

-- Drift that is harmless for ever, drift that does harm; closed walks of edges and their resets.
pub mod Robust
-- The margin of a plan: how slight a drift is harmless.
pub mod Margin
-- The marked set without touch, and plans with joint resets.
pub mod Untouched
-- The loop plan of 01's bench, and a plan that is refused.
pub mod Plans
-- The margin of a plan by a sheet: the walks through its fringe, or its greatest height.
pub mod Fringe
-- How soon drift does harm, by a trail.
pub mod Delay
