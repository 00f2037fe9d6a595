-- The check's ways.
pub mod Check
