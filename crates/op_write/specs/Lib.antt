-- The evidence writer.
pub mod Write
