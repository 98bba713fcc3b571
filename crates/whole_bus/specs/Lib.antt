pub mod Sample
pub mod Block
pub mod Raised
