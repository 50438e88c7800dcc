pub mod Queues
pub mod All
pub mod Came
