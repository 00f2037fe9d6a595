pub mod Marks
pub mod Graph
pub mod Stack
pub mod Scan
pub mod Pass
pub mod Held
