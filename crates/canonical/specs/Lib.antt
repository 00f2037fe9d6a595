-- What a blank stay field means, which bytes spell a plan, the shortest of them, and when two plans have the same content.
pub mod Blank
pub mod Canonical
pub mod Same
