pub mod TableView
pub mod Places
pub mod Maps
