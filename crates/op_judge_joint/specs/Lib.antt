-- The quicker judge.
pub mod JudgeJoint
