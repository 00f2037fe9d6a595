-- Bytes laid into a lent output.
pub mod Lays
-- What calls that write bytes answer.
pub mod Calls
