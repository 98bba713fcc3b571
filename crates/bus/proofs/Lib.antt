pub mod Examples
pub mod Scenes
pub mod Rates
pub mod Digits
pub mod Sizes
pub mod Blocks
pub mod Fades
pub mod Sums
