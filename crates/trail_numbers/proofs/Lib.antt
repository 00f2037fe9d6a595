-- Numbers of as many clocks as there are.
pub mod Clocks
