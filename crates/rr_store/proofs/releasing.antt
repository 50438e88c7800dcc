pub mod active
pub mod pending
