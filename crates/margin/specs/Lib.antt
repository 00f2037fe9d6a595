-- The limits that a jump leaves, clock by clock.
pub mod Limits
