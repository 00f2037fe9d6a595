-- Which edges can open alone.
pub mod Opening
-- An accepted model: each closed walk of its edges that counts resets each clock.
pub mod Accepted
-- A model with joint resets: each of them has an edge that resets every clock.
pub mod Joint
-- The verdict on a model is right in both directions.
pub mod Models
