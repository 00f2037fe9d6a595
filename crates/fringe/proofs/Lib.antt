-- Laws behind the functions' proofs.

-- The fringe by corners, and its flags state by state.
pub mod Flags
