-- Laws behind the functions' proofs.

-- The points that are noted.
pub mod Notes
-- The rules of a state by the ways through their test.
pub mod Keeps
-- The rules by arrays are those of the system.
pub mod Systems
-- The arrays of a model.
pub mod Models
