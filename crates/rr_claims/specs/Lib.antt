pub mod Rosters
pub mod Cards
