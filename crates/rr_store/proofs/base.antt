pub mod lists
pub mod views
pub mod hands
pub mod lookups
pub mod frames
pub mod senders
