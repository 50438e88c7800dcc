pub mod Fields
pub mod Queued
pub mod Reached
pub mod Refusals
pub mod Sound
pub mod View
