pub mod Histories
pub mod Hubs
pub mod Laws
