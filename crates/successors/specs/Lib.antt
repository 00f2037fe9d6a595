-- What the lists of steps are filled from, and what is promised of them.

-- Flags of the allowed states.
pub mod Flags
-- Adjacency lists in the making.
pub mod Rows
-- The steps of a model in lists.
pub mod Flow
-- An edge in one number.
pub mod Words
