pub mod Fields
pub mod Inserted
pub mod Lists
pub mod Refusals
pub mod Sound
pub mod Stored
pub mod View
pub mod MayAnswer
