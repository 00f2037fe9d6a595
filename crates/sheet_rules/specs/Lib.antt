-- What the rules of a sheet are tested by, and what the test says.

-- The arrays.
pub mod Tables
-- The rules by those arrays.
pub mod Rules
