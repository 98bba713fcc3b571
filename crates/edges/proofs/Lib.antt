pub mod Loops
pub mod Search
pub mod Wiring
