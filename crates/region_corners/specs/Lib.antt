-- The corners of every region.
pub mod Corners
-- The faces of every region.
pub mod Faces
-- All of it in one slice.
pub mod Shapes
