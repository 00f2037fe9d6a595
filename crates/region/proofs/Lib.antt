pub mod Padding
pub mod Views
pub mod Corners
pub mod Packing
pub mod Known
