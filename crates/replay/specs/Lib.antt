-- What it means that bytes spell a trail that passes.
pub mod Spelling
-- The answer of a trail, number by number and step by step.
pub mod Trail
-- The same as the code has it: steps whose regions are structs, and the part of the bytes that spells a walk.
pub mod Steps
