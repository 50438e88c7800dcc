pub mod Looking
pub mod Shown
pub mod Numbers
pub mod Asking
pub mod Placed
pub mod Apart
pub mod Stands
