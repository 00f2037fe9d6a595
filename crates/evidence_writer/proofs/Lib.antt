-- Why the writer is right.

-- The verdict from the distances; what the search for the trail is given.
pub mod Verdict
-- What our sheet is made of.
pub mod Sheet
-- What the output holds in the end.
pub mod Output
