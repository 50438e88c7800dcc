pub mod EntryLaws
pub mod EmptiedLaws
pub mod StateLaws
mod LeavingLaws
pub mod UseLaws
mod LinkLaws
mod HeldLaws
mod SenderLaws
mod QueueLaws
pub mod DrainedLaws
mod HeadLaws
pub mod BitLaws
mod SetLaws
