-- What several prints write.
pub mod Writes
