pub mod Live
pub mod Refusals
pub mod Sound
pub mod View
