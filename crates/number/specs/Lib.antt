-- What a number is.
pub mod Number
-- Whether its form is shortest.
pub mod Shortest
-- Numbers one after the other.
pub mod Sequence
-- The paper's number and values of an answer.
pub mod Answer
