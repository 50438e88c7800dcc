pub mod Connected
pub mod Alive
pub mod Used
