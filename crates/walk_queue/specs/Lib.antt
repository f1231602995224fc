pub mod Keys
pub mod Heap
