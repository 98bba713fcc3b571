pub mod Refined
pub mod Wishes
