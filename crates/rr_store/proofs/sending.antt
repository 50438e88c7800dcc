pub mod put
