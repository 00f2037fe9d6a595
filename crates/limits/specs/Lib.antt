-- Every limit of a plan, and what follows from them.
pub mod Limits
-- Refusals and their numbers.
pub mod Refusal
