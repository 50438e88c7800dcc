pub mod Steps
pub mod Receiving
