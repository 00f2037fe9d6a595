-- A label that is looked for.
pub mod Least
