-- Walks of edges on the drawing alone, and which of them count.
pub mod Opening
pub mod Cycle
-- Which walks have an edge that resets every clock.
pub mod Joint
