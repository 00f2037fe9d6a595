-- What comes of a reading, by its ways.
pub mod Ways
-- Steps one after the other; the part of the bytes that spells a walk.
pub mod Walks
-- Regions of the evidence, kept in bytes and looked up.
pub mod Regions
-- Steps as the code has them.
pub mod Steps
-- Walks, steps and trails that replay, in the theory's relations.
pub mod Replays
-- The answer of a trail.
pub mod Answers
-- Cases of 01's bench.
pub mod Examples
