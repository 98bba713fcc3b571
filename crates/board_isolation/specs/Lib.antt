pub mod Agree
pub mod Isolated
