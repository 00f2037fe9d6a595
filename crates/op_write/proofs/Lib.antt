-- The writer's ways.
pub mod Write
