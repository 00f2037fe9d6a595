-- What the readers of evidence rest on.
pub mod Reading
