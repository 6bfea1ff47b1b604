pub mod Elements
pub mod Heap
pub mod Contents
