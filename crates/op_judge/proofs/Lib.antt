-- The judge's ways.
pub mod Judged
