pub mod Lists
mod Keyless
mod Tokens
mod Lent
mod Walks
