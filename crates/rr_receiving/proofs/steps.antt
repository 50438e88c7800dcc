pub mod Response
pub mod Request
pub mod Waiting
