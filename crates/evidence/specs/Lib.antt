-- What passes as evidence, and what its check answers.
pub mod Evidence
-- Our evidence.
pub mod Ours
