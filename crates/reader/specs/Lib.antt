-- What a reader gives, and where it then stands.

-- One call.
pub mod Reader
-- Several calls, one after the other.
pub mod Calls
