pub mod GraphLaws
pub mod Stack
pub mod Scans
pub mod PassLaws
pub mod Back
pub mod Ends
