-- Why numbers are read and written rightly.
pub mod Laws
pub mod Spelling
-- Whether a form is shortest.
pub mod Shortest
-- Numbers one after the other.
pub mod Sequence
pub mod Examples
