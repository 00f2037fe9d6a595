-- Which bytes are a model, in the order of reading.
pub mod Parse
pub mod Longest
-- The code's cursor beside the definitions' state.
pub mod Cursor
