-- The evidence of the quicker judge: the ways of a call.
pub mod WrittenJoint
