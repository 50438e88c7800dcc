pub mod Active
pub mod Inserted
pub mod Live
pub mod Refusals
pub mod Sound
pub mod View
