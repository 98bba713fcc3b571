pub mod Forms
pub mod Refined
