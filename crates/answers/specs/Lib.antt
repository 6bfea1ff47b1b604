pub mod Answers
pub mod Decisions
pub mod Granted
