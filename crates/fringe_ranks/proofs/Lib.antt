-- Laws behind the functions' proofs.

-- No label of a jump leads where the label of time does.
pub mod Apart
-- The most jumps from a state, by its steps.
pub mod Jumps
-- The same in lists.
pub mod Ranks
-- A row of steps, place by place.
pub mod Row
-- The states of a height, one by one.
pub mod Ranking
-- The chains of the heights.
pub mod Heights
-- The loop along a chain.
pub mod Along
-- The time successor of a state.
pub mod Later
