-- What is known of the edges that leave a location.
pub mod Exits
