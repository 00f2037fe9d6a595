-- The marks of the quicker judge: the ways of a call.
pub mod MarkedJoint
