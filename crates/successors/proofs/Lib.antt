-- Laws behind the functions' proofs.

-- What is put into a row, part after part, and a row more.
pub mod Rows
-- The flags of the states.
pub mod Flags
-- The edges that leave a location.
pub mod Leaving
-- States by location and region number.
pub mod Numbers
-- The steps of a model by the tables.
pub mod Steps
-- What the functions put.
pub mod Tables
-- The rows as the code fills them.
pub mod Filling
-- The room that the rows take, and the limits of a lawful model.
pub mod Room
-- An edge in one number.
pub mod Words
