-- What the program writes.
pub mod Needs
