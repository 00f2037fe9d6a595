-- What the ranks of a fringe are found from, and what is found on the way.
pub mod Ranks
