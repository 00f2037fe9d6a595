-- What drift does to a plan in the end.
pub mod Outlook
-- Looking as a task.
pub mod Task
