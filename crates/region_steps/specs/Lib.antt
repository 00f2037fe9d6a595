-- The code of a region, and the limits of the tables.
pub mod Codes
-- What the tables hold.
pub mod Tables
