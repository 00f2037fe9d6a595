-- What a sheet is made of.
pub mod Data
