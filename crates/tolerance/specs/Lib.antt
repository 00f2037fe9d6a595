-- What the program writes.
pub mod Margin
