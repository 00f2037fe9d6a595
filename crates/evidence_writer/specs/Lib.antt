-- The writer of evidence.

-- What the search has left for it.
pub mod Searched
-- What it answers and leaves.
pub mod Written
-- Writing as a task.
pub mod Task
