pub mod Reclaimed
pub mod Room
