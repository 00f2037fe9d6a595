-- The ways of a call.
pub mod Calls
-- Slices that are lent in part and come back as zero.
pub mod Frames
-- Refusal 17.
pub mod Joint
