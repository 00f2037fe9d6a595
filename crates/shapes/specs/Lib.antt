-- The tables by region in one slice.
pub mod Layout
