pub mod Inserted
pub mod Ready
pub mod Refusals
pub mod Skimmed
pub mod Sound
pub mod Vacant
pub mod View
