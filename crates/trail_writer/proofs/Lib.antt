-- The moves of a trail, spelled part by part.
pub mod Moves
