-- Laws behind the functions' proofs, over any relation.

-- Counts of places that pass a test.
pub mod Count
-- Rows of successors.
pub mod Rows
-- What is taken in, part after part.
pub mod Queue
-- The least state of a set.
pub mod Scan
-- The least level of a goal.
pub mod Lowest
-- The rounds of the search.
pub mod Rounds
-- The pass of flags from the last level down.
pub mod Flags
-- The walk along the flags.
pub mod Follow
