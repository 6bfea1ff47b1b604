pub mod Answers
pub mod Kinds
pub mod Least
pub mod Parts
pub mod Plans
pub mod Prints
pub mod Runs
