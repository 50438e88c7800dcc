pub mod Request
pub mod Response
