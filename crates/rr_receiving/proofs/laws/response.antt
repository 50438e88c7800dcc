pub mod Inserted
pub mod Refusals
pub mod Sound
pub mod View
