-- What is written.
pub mod Text
