pub mod Orders
pub mod Drained
