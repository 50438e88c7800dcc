pub mod NextSender
pub mod Passed
pub mod request
