-- Why the program comes to an end.

-- A reader that gives a number moves on.
pub mod Laws
