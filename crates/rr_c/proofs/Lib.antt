pub mod Apart
pub mod Taken
