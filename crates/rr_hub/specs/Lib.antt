pub mod CoreLends
pub use Rattle.rr_store.specs.Writing
pub mod Copies
