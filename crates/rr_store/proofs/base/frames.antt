pub mod Frames
pub mod Kept
pub mod Rewrites
pub mod Emptied
