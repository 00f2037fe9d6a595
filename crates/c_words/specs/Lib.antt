-- Answers as one number each.
pub mod Words
