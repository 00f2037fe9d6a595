-- The table, and what is selected from it.
pub mod Table
-- Where a number stands in a list.
pub mod Lookup
