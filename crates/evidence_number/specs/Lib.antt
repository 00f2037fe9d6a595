-- How the numbers of evidence are spelled, read and refused.
pub mod Evidence
-- Some numbers, read one after the other.
pub mod Numbers
