-- The evidence check.
pub mod Check
