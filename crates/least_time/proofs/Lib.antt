-- Laws behind the functions' proofs.

-- Jumps and units of waiting by the numbers that the functions on states answer.
pub mod Leading
-- The labelled system of a lawful model.
pub mod Models
-- What a level adds; the first level, the next one and the end.
pub mod Searching
-- The least time of a location from the times of its states.
pub mod Location
