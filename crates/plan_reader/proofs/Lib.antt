-- What an accepted model keeps.
pub mod Accepted
-- Bytes cut past the longest model.
pub mod Cut
pub mod Examples
