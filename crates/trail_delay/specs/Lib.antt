-- The delay of our trail.
pub mod Ours
