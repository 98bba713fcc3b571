pub mod Root
pub mod Narrow
pub mod Level
pub mod Digits
