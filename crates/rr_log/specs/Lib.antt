pub mod Owned
pub mod Entries
