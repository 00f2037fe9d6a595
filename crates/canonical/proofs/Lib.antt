-- Why a plan is read from just its spellings, and which of them is the shortest.
pub mod Gather
pub mod Blanks
pub mod Plans
pub mod Shortest
pub mod Examples
