-- What a reader that stands at an offset gives.
pub mod Replied
