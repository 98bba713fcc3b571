pub mod Together
pub mod Forgets
pub mod Frees
