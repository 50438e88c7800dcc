pub mod Keyed
pub mod Agreeing
pub mod Counts
pub mod Unseen
pub mod Expired
pub mod Left
