pub mod Waiting
pub mod request
pub mod response
pub mod TakenSender
