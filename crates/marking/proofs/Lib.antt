-- Laws behind the functions' proofs.

-- The slots of a chain hold a point; locations and their flags.
pub mod Corners
-- What a state leads to, part after part.
pub mod Leading
-- What the tables lead to is what the system's steps lead to; the marked states are those that are reached.
pub mod Steps
-- What a method asks of the tables.
pub mod Along
-- The least distance of a forbidden state.
pub mod LeastDistance
