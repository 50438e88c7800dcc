pub mod Fields
pub mod Sound
pub mod View
