pub mod Live
pub mod Required
pub mod Prepare
pub mod Parts
