-- How soon drift does harm.
pub mod Harm
