-- Laws behind the functions' proofs.

-- Regions by their numbers.
pub mod Numbers
-- Chains through slots.
pub mod Links
-- Chains that stand in one list with their slots.
pub mod Linking
-- The slots of corners.
pub mod Slots
-- Regions moved by whole numbers: their corners move with them, and their faces.
pub mod Moved
-- The faces of a region by the codes of its ranks.
pub mod FaceCodes
-- Rows one after the other; the rows of faces.
pub mod Rows
-- The look-up of a row of faces.
pub mod Lookups
-- The rows of faces of the regions so far.
pub mod FaceRows
-- All tables in one slice.
pub mod Shapes
