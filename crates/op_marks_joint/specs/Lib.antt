-- The marks of the quicker judge.
pub mod MarksJoint
