pub mod Masks
pub mod Prepares
