-- Lists of zeros.
pub mod Zeros
