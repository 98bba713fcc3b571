pub mod Story
pub mod Agree
pub mod Isolated
pub mod Store
