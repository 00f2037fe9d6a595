-- The plan writer.
pub mod Plan
