-- The least time of a model.
pub mod LeastTime
-- What the search by levels promises of its arrays.
pub mod Times
-- Where a unit of waiting leads.
pub mod Waiting
