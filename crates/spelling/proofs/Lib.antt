-- Laws of what is laid.
pub mod Lays
