-- The least time to a location.
pub mod Sounding
