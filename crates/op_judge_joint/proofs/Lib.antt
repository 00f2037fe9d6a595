-- The quicker judge's ways.
pub mod JudgedJoint
