-- The marks.
pub mod Marks
