-- Why the walk test is right, in the order in which the laws build on each other.
pub mod Opens
pub mod Pigeonhole
pub mod ClosedWalks
-- The same of the test for joint resets.
pub mod Joints
