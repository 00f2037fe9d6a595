-- The numbers of a sheet, as they are read.
pub mod Numbers
