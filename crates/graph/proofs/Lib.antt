pub mod Plan
pub mod Masks
pub mod States
pub mod Numbers
pub mod Models
