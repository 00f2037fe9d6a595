-- The tables of a model.
pub mod Tables
