-- Room known beforehand.
pub mod Room
