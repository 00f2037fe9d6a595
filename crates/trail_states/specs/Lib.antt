-- The search for our trail's states by the tables.

-- What the tables of a system tell, for the search.
pub mod Told
-- What the walk along the flags goes by.
pub mod Guided
