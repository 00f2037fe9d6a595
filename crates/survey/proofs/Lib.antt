-- Heights and closed walks, and marks that wait in flags.
pub mod Heights
-- What the marking asks of the tables, and what it finds.
pub mod Tables
-- Forbidden states.
pub mod Forbidden
