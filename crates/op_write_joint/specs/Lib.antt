-- The evidence of the quicker judge.
pub mod WriteJoint
