pub mod Codes
pub mod Answers
pub mod Naming
pub mod Sends
