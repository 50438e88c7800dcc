pub mod Live
pub mod Opened
pub mod request
pub mod response
