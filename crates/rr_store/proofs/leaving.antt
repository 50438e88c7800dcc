pub mod Channels
pub mod Drained
pub mod Expiring
pub mod Outdated
pub mod OutdatedAt
pub mod Lists
