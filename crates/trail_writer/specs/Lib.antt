-- The writer of trails.

-- What it is lent.
pub mod Lent
-- The numbers of a trail by its states.
pub mod Path
-- A step by its kind.
pub mod Move
