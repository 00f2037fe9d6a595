-- The numbers of a trail as they are read.

-- Labels of a walk's steps, and as many numbers as are asked for.
pub mod Numbers
-- Three of them at most.
pub mod Three
-- Steps as the code has them, with a region's numbers in a struct.
pub mod Steps
