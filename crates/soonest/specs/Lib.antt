-- What the program writes.
pub mod Arrivals
