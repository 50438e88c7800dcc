pub mod Words
pub mod Turns
pub mod Leading
pub mod Calls
pub mod Numbers
pub mod Tries
pub mod Waits
pub mod Exchanges
