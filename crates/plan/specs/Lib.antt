pub mod Kinds
pub mod Format
pub mod Lines
pub mod Reading
pub mod Steps
