-- What all operations on a plan share (01, "What a call hands back and leaves").

-- Refusals of the model and of the scratch.
pub mod Call
-- The four scratch slices: as lent, and as left.
pub mod Scratch
-- 02 (g): refusal 17.
pub mod Joint
-- A result as 01 tells it.
pub mod Answered
-- What a call goes on with, and what comes of it.
pub mod Admitted
-- The four slices in one struct.
pub mod Lent
