-- Where a label leads, and the least label between two states.
pub mod Least
-- Labels, walks and regions, number by number.
pub mod Written
