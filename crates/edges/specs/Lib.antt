pub mod Wiring
pub mod Ports
