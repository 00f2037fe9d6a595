-- Laws of the layout.

-- Parts of a list, and what stores leave of them.
pub mod Parts
