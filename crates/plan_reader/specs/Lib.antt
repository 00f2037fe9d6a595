-- Which models are accepted.
pub mod Accept
