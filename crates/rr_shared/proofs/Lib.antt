pub mod Going
pub mod Laws
