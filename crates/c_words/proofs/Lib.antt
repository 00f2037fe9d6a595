-- Words by cases of an answer.
pub mod Words
