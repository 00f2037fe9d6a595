-- Sizes of what is lent.
pub mod Lent
-- Arrays that the tables of a model fit.
pub mod Arrays
