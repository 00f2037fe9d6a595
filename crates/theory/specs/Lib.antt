-- What document 01 says that needs no bytes. Read the modules in this order; in each, what the paper means comes first, then what computes it.

-- ---- systems of numbered states and their evidence, with nothing of clocks (01, "Steps between allowed states", "Evidence")

-- Tests below a bound.
pub mod Below
-- Walks of any graph, the fewest steps, the least walk, the order of keys.
pub mod Walk
-- A system; its walks of time and jump steps, and its closed walks.
pub mod System
-- The four steps, the marked set, the verdict.
pub mod Marked
-- The most steps without return.
pub mod Height
-- What a sheet is, and ours.
pub mod Sheet
-- Trails by their states, and the states of ours.
pub mod Trail
-- The states of our closed walk.
pub mod ClosedWalk
-- Time and jump steps by their labels; closed walks of labels, and ours.
pub mod Labels
-- Trails by their moves, their replay, and our moves.
pub mod Replay
-- 02 (g): a system without its touch steps.
pub mod WithoutTouch
-- ---- clocks (01, "Regions", "Steps between allowed states", "A widened run")

-- Tests and ranges of lists; lists compared place by place.
pub mod Lists
pub mod Pointwise
-- Timed automata and their widened runs.
pub mod Automaton
-- Regions: lawful ones, corners, faces, time successor, reset, all of them in order.
pub mod Region
-- The order of regions, and how many there are.
pub mod Enumeration
-- States, their four steps and the marked set, on locations and regions.
pub mod RegionGraph
-- States by their numbers, and the system that they form.
pub mod StateGraph
-- 02 (e): the least time to a location with perfect clocks.
pub mod Soonest
-- An automaton at which the bound on the drift is sharp.
pub mod Sharp
-- ---- searches level by level

-- Distances from a node, as rounds find them; the nodes of the shortest walks.
pub mod Levels
pub mod Guide
-- 02 (d): the rounds of the marking.
pub mod Rounds
-- ---- lists of numbers as code holds them

-- Successors of nodes, and slots by what they hold.
pub mod Adjacency
