-- Limits and half values of up to three clocks.
pub mod Limits
-- Entries of locations, edge by edge.
pub mod Entries
