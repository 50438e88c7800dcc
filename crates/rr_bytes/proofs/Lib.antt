pub mod Copying
pub mod Placing
