-- The judge.
pub mod Judge
