-- The reading of a sheet's numbers.
pub mod Reading
