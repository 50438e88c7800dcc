pub mod put
pub mod request
pub mod response
