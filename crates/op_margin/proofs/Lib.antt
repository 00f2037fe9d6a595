-- The margin's ways.
pub mod Margins
