-- What a stay field means.
pub mod Resolve
