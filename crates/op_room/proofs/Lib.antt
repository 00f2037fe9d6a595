-- The ways of the call.
pub mod Rooms
-- The sheet limit is the paper's.
pub mod Limits
