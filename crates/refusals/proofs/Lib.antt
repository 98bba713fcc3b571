pub mod First
pub mod Definition
pub mod Spawn
pub mod Host
pub mod Making
pub mod Render
pub mod Prepare
