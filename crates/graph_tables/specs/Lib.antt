pub mod Brief
pub mod FedPorts
pub mod Removal
