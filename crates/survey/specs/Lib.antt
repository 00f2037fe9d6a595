-- What is found about the states of a model.
pub mod Surveyed
-- The search as a task.
pub mod Task
