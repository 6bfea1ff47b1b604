pub mod Asking
pub mod Clocks
pub mod Ends
pub mod Parts
pub mod Running
