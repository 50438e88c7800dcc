pub mod Hint
pub mod Initialise
pub mod Push
pub mod Restaged
pub mod Written
