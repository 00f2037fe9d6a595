-- Sums over the steps from a state through given ones: of the jumps of a walk, of the numbers of a trail.
pub mod Sums
pub mod Jumps
pub mod Delays
