-- The ways of the call.
pub mod Answered
