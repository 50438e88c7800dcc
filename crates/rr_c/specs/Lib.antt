pub mod Answers
pub mod Heap
pub mod Opening
pub mod Settings
