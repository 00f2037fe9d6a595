-- Flags of the fringe of a sheet.
pub mod Flags
