pub mod base
pub mod querying
pub mod loaning
pub mod writing
pub mod receiving
pub mod releasing
pub mod sending
pub mod leaving
