pub mod Request
pub mod Response
pub mod Initialising
pub mod Hinting
pub mod Whole
pub mod Lent
