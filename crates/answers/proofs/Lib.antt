pub mod Deciding
pub mod Rows
pub mod Telling
pub mod Writing
