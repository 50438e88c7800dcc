pub mod Fields
pub mod Place
pub mod Sound
pub mod Taken
pub mod View
