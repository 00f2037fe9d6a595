-- Our sheet's numbers, and how they are laid one after the other.
pub mod Numbers
