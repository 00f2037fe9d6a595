-- Laws behind the functions' proofs.

-- A relation cut down to the nodes below a bound: walks from there say the same.
pub mod Inside
-- The rounds, and their two ends.
pub mod Back
-- The walk along the flags, with the step back, is the least closed walk; at a system it is ours.
pub mod Closing
