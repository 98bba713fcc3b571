pub mod Applying
pub mod Blocks
