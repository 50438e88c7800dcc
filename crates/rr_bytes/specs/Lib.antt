pub mod Completing
pub mod Copies
pub mod InPlace
pub mod Receives
pub mod Refused
pub mod SendRefusals
pub mod Writes
