pub mod Called
pub mod Made
pub mod Reached
pub mod Text
pub mod Spawning
pub mod Parts
pub mod Freed
pub mod Blocks
