-- Why models are read rightly, in the order in which the laws build on each other.
pub mod Fields
pub mod Arrays
-- Reading in both directions: step by step, as a draft, as a model.
pub mod Readers
pub mod Drafts
pub mod Finals
pub mod Lawful
-- A refused reading stays refused.
pub mod Stops
-- The code's way after the header.
pub mod Bodies
