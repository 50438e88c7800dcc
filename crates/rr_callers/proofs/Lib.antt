mod Sensed
mod Singles
pub mod Folding
pub mod Making
mod Zipped
