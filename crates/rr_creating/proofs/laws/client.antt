pub mod Sound
pub mod View
