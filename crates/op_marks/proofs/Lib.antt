-- The marks' ways.
pub mod Marked
