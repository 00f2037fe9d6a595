-- What the search for distances reads, and what it promises.

-- The tables of a system, and the distances.
pub mod Tables
-- The states that have a corner at a point, and the flags of points.
pub mod Corners
-- What the methods of the tables promise.
pub mod Along
