pub mod Emptied
pub mod One
pub mod Sender
