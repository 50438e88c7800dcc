pub mod Senders
pub mod Links
pub mod Parts
pub mod SenderLends
pub mod Draining
pub mod Turns
pub mod BitSets
pub mod SenderSets
