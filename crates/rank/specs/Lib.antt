pub mod Order
pub mod Cycle
pub mod Names
pub mod Parts
