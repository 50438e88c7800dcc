pub mod Parameters
pub mod Sensing
pub mod Singles
