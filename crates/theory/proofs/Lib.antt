-- Laws of the definitions, module by module; then the theorems.

-- ---- systems of numbered states

pub mod Below
pub mod Lex
pub mod Walk
pub mod System
-- The marked set is the smallest; what shows that a set is the marked one.
pub mod Marked
-- How a loop finds the marked set.
pub mod Closure
pub mod Height
-- Strongly connected components: their closed walks and heights; systems with the same flow steps.
pub mod Component
pub mod SameFlow
-- Sheets: sound, complete, and their test.
pub mod Sheet
pub mod Trail
pub mod ClosedWalk
pub mod Labels
pub mod Replay
-- Our trail and our closed walks are the least.
pub mod Least
-- Evidence and verdict: just one kind.
pub mod Verdict
-- 02 (g): without touch steps, marks and trails are among those with them; of trails without touch, ours there is the least.
pub mod WithoutTouch
-- Small systems, computed.
pub mod Examples
-- ---- clocks

pub mod Lists
pub mod Pointwise
-- The tests of regions and states say what 01 means by them.
pub mod Region
-- Ranks without a gap; steps of lawful regions are lawful, a face keeps the limits.
pub mod Ranks
pub mod RegionSteps
-- Members and order of lists that are put together.
pub mod Sorted
-- The list of all regions: lawful, complete, ascending.
pub mod Enumeration
-- 01's counts of regions, over any ceiling.
pub mod RegionCount
-- The bench's cases on regions, computed.
pub mod RegionExamples
-- Some shift rounds all entry times of a run well.
pub mod Shift
-- Widened runs round to exact ones along the same edges when (K + 1) * e < D.
pub mod Rounding
-- Exact runs are widened runs.
pub mod Widen
-- Plans that no run tells apart.
pub mod Alike
-- Exact runs stay in a set that is closed under time and jump: such a set covers slight drift.
pub mod Stay
-- The bound is sharp.
pub mod Sharp
-- A number made of two.
pub mod Pairs
-- Numbers of states lead to states and back; the system of an automaton keeps the laws.
pub mod StateGraph
-- The start is the first state of its location.
pub mod First
-- Its marked numbers are the marked states; a closed set of numbers covers slight drift.
pub mod StateMarked
-- 02 (e): perfect clocks may be rounded down, so the least whole time is the least of all; it is found by jumps and units of waiting on numbered states.
pub mod Soonest
pub mod Timed
pub mod TimedRuns
-- ---- searches level by level

-- Rows of successors in lists.
pub mod Rows
-- Chains through slots.
pub mod Chains
-- Rounds find the distances; the marks and our trail's steps from them.
pub mod Levels
-- 02 (d): how many rounds there are, and that they are no more than the marked states.
pub mod Rounds
pub mod StateRounds
-- The nodes of the shortest walks, and the least of these walks; closed walks by the same search.
pub mod Guide
pub mod Return
