-- What the program writes.
pub mod Verdict
