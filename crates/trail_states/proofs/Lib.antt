-- Laws behind the functions' proofs.

-- The least state that a state leads to, part after part.
pub mod Parts
-- At a system: its flags, and our trail along them.
pub mod Trail
