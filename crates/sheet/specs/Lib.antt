-- What a sheet's bytes are answered by.
pub mod Answer
