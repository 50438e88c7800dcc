pub mod Making
pub mod Client
pub mod Server
pub mod Rooms
pub mod Refusals
pub mod Added
pub mod Alike
