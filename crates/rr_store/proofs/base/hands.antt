pub mod Stages
pub mod Hands
pub mod Vacant
pub mod Recounted
