-- The limits of a plan, as facts.
pub mod Limits
-- The struct of the code as a region of the theory, and back.
pub mod View
-- Packed numbers.
pub mod Packed
-- Corners as numbers.
pub mod Corners
