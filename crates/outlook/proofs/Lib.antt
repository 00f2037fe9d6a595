-- The outlook from what is found.
pub mod Found
