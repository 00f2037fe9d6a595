-- What a read that fails leaves.
pub mod Front
