pub mod Lookup
pub mod Packed
pub mod Chosen
pub mod Entries
pub mod Gaps
pub mod Selection
pub mod Counts
pub mod Listed
