-- Why the check is right.

-- What the answers mean.
pub mod Answers
-- Our evidence passes.
pub mod Ours
