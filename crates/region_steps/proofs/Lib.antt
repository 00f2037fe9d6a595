pub mod Index
pub mod Codes
pub mod Fill
pub mod Steps
pub mod Tables
