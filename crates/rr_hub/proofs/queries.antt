pub mod Pending
pub mod Active
pub mod Naming
pub mod Ports
pub mod Named
