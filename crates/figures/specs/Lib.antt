pub mod Kinds
pub mod Answers
pub mod Release
pub mod Figures
